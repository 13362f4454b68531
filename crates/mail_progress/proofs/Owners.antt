-- Each draft in the depot is a lane's.
use Rattle.std.proofs.Common.{◌≡◌, ◌≢◌, ℕ, suc, ◌+◌, List, [], ◌∷◌, ◌++◌, Bool, true, false, cond, Some, None, inl, inr, refl, ap, sym, ◌∙◌, subst}
use Rattle.std.specs.Prelude.{slice_get, slice_set, flat_map, nat_lt}
use Rattle.mail_world.specs.declared.Event.{Event}
use Rattle.mail_world.specs.declared.Event.TheVariants.{Begin, Put, Cancel, Seal, Split, Offer, HandBack, Collect}
use Rattle.mail_world.specs.declared.Event.TheVariants.{Release, GiveSlip, Reclaim, Close}
use Rattle.mail_world.specs.Depot.{Key, Depot, Slot, Held, Free, Draft, Sealed, Retired, with_held, last_generation, GivesBack, blocks_of}
use Rattle.mail_world.specs.House.{Lane, House, IsFreshSlot, IsStart}
use Rattle.mail_world.specs.Events.{Step}
use Rattle.mail_world.specs.Runs.{Happened, Run, last_house}
use Rattle.mail_world.proofs.Accepted.{get_set, each_at}
use Rattle.mail_world.proofs.Depots.{key_at, set_at, set_past}
use Rattle.mail_world.proofs.WrongSteps.{same_some}
use Rattle.mail_world.proofs.Merged.{same_or_not}

abbrev pub HasOwner : List Lane → Key → Type 0
HasOwner ls key = (k : ℕ) × (lane : Lane) × (slice_get ls k ≡ Some lane) × (lane.draft ≡ Some key)

abbrev pub AreOwned : Depot → List Lane → Type 0
AreOwned d ls = (i : ℕ) (slot : Slot) (bytes blocks : List ℕ) → slice_get d.slots i ≡ Some slot → slot.held ≡ Draft bytes blocks
    → HasOwner ls (key_at i slot.generation)

-- a lane changes
owner_other : (ls : List Lane) (k : ℕ) (old new : Lane) (key : Key) → slice_get ls k ≡ Some old → (old.draft ≡ Some key → new.draft ≡ Some key)
    → HasOwner ls key → HasOwner (slice_set ls k new) key
owner_other ls k old new key was keeps o = elim (same_or_not k o.0) [
  | inl same ↦
      let its : old ≡ o.1 = same_some (slice_get ls k) old o.1 was (ap (slice_get ls) same ∙ o.2) in
      (k, new, set_at ls k new old was, keeps (ap (λ (x : Lane). x.draft) its ∙ o.3))
  | inr other ↦ (o.0, o.1, set_past ls k o.0 new other ∙ o.2, o.3)
]

owned_lane : (d : Depot) (ls : List Lane) (k : ℕ) (old new : Lane) → slice_get ls k ≡ Some old → new.draft ≡ old.draft → AreOwned d ls
    → AreOwned d (slice_set ls k new)
owned_lane d ls k old new was e s i slot bytes blocks at held = owner_other ls k old new _ was (λ h. e ∙ h) (s i slot bytes blocks at held)

-- a slot gets something that is no draft
record Drops (d new : Depot) (j : ℕ) : Type 0 where
  next : Slot
  slots : new.slots ≡ slice_set d.slots j next
  no_draft : (bytes blocks : List ℕ) → next.held ≡ Draft bytes blocks → ⊥

drops_to : (d new : Depot) (key : Key) (held : Held) (free : List ℕ) → new ≡ with_held d key held free
    → ((bytes blocks : List ℕ) → held ≡ Draft bytes blocks → ⊥) → Drops d new key.slot
drops_to d new key held free e f = record { next = record { generation = key.generation; held = held }; slots = ap (λ (x : Depot). x.slots) e; no_draft = f }

drops_by : (d : Depot) (key : Key) (free : List ℕ) (t : Bool)
    → Drops d (cond t (record { slots = slice_set d.slots key.slot (record { generation = key.generation + 1; held = Free }); free = free })
    (with_held d key Retired free)) key.slot
drops_by d key free true = record { next = record { generation = key.generation + 1; held = Free }; slots = refl; no_draft = λ bytes blocks e. cc }
drops_by d key free false = record { next = record { generation = key.generation; held = Retired }; slots = refl; no_draft = λ bytes blocks e. cc }

drops_back : (d : Depot) (key : Key) (held : List ℕ → List ℕ → Held) (new : Depot) → GivesBack d key held new → Drops d new key.slot
drops_back d key held new r = let P : Depot → Type 0 =
    λ n. Drops d n key.slot in subst P (sym r.after) (drops_by d key r.free (nat_lt key.generation last_generation))

owned_drop : (d new : Depot) (j : ℕ) (ls ms : List Lane) → Drops d new j → ((key : Key) → key.slot ≢ j → HasOwner ls key → HasOwner ms key) → AreOwned d ls
    → AreOwned new ms
owned_drop d new j ls ms r keeps s i slot bytes blocks at held = elim (get_set d.slots j i r.next slot (ap (λ xs. slice_get xs i) (sym r.slots) ∙ at)) [
  | inl here ↦ absurd (r.no_draft bytes blocks (ap (λ (x : Slot). x.held) here.1 ∙ held))
  | inr other ↦ keeps (key_at i slot.generation) other.0 (s i slot bytes blocks other.1 held)
]

-- a slot gets a draft of its key
owned_draft : (d new : Depot) (key : Key) (held : Held) (free : List ℕ) (ls ms : List Lane) → new ≡ with_held d key held free → HasOwner ms key
    → ((its : Key) → HasOwner ls its → HasOwner ms its) → AreOwned d ls → AreOwned new ms
owned_draft d new key held free ls ms e own keeps s i slot bytes blocks at is =
    elim (get_set d.slots key.slot i (record { generation = key.generation; held = held }) slot (ap (λ (x : Depot). slice_get x.slots i) (sym e) ∙ at)) [
      | inl here ↦
          let generation : key.generation ≡ slot.generation = ap (λ (x : Slot). x.generation) here.1 in
          let same : key ≡ key_at i slot.generation = ap (λ j. key_at j key.generation) (sym here.0) ∙ ap (key_at i) generation in
          subst (HasOwner ms) same own
      | inr other ↦ keeps (key_at i slot.generation) (s i slot bytes blocks other.1 is)
    ]

abbrev pub AllOwned : House → Type 0
AllOwned h = AreOwned h.depot h.lanes

owned_step : (h : House) (e : Event) (new : House) → AllOwned h → Step h e new → AllOwned new
owned_step h (Begin k) new s st =
    let next : Lane = record st.lane { number = st.number; draft = Some st.key } in
    subst AllOwned (sym st.after)
    (owned_draft h.depot st.depot st.key (Draft [] []) h.depot.free h.lanes (slice_set h.lanes k next) st.begins.1
    (k, next, set_at h.lanes k next st.lane st.is, refl)
    (λ its o. owner_other h.lanes k st.lane next its st.is (λ h. let bad : None ≡ Some its = sym st.no_draft ∙ h in absurd (let f : ⊥ = cc in f)) o) s)
owned_step h (Put k bytes) new s st =
    let p = st.puts in
    subst AllOwned (sym st.after) (owned_draft h.depot st.depot st.key (Draft (p.bytes ++ bytes) (p.blocks ++ p.picked)) p.rest h.lanes h.lanes p.after
    (k, st.lane, st.is, st.draft) (λ its o. o) s)
owned_step h (Cancel k) new s st =
    subst AllOwned (sym st.after)
    (owned_drop h.depot st.depot st.key.slot h.lanes _ (drops_back h.depot st.key Draft st.depot st.cancels)
    (λ its ne o. owner_other h.lanes k st.lane (record st.lane { draft = None }) its st.is
    (λ h. absurd (ne (ap (λ (x : Key). x.slot) (same_some st.lane.draft its st.key h st.draft)))) o) s)
owned_step h (Seal k n) new s st =
    subst AllOwned (sym st.after)
    (owned_drop h.depot st.depot st.key.slot h.lanes _
    (drops_to h.depot st.depot st.key (Sealed st.seals.bytes st.seals.blocks n) h.depot.free st.seals.after (λ bytes blocks e. cc))
    (λ its ne o. owner_other h.lanes k st.lane _ its st.is (λ h. absurd (ne (ap (λ (x : Key). x.slot) (same_some st.lane.draft its st.key h st.draft)))) o) s)
owned_step h (Split k i) new s st = subst AllOwned (sym st.after) (owned_lane h.depot h.lanes k st.lane _ st.is refl s)
owned_step h (Offer k note) new s st = subst AllOwned (sym st.after) (owned_lane h.depot h.lanes k st.lane _ st.is refl s)
owned_step h (HandBack k i m) new s st =
    let r = st.releases in
    subst AllOwned (sym st.after)
    (owned_drop h.depot st.depot st.sealed.key.slot h.lanes _
    (drops_to h.depot st.depot st.sealed.key (Sealed r.bytes r.blocks r.weight) h.depot.free r.after (λ bytes blocks e. cc))
    (λ its ne o. owner_other h.lanes k st.lane _ its st.is (λ h. h) o) s)
owned_step h (Collect k) new s st = subst AllOwned (sym st.after) (owned_lane h.depot h.lanes k st.lane _ st.is refl s)
owned_step h (Release w) new s st =
    let r = st.releases in
    subst AllOwned (sym st.after)
    (owned_drop h.depot st.depot st.copy.post.key.slot h.lanes h.lanes
    (drops_to h.depot st.depot st.copy.post.key (Sealed r.bytes r.blocks r.weight) h.depot.free r.after (λ bytes blocks e. cc)) (λ its ne o. o) s)
owned_step h (GiveSlip w o) new s st = subst AllOwned (sym st.after) (owned_lane h.depot h.lanes st.copy.post.note.txn.lane st.lane _ st.to refl s)
owned_step h (Reclaim slot generation) new s st =
    subst AllOwned (sym st.2)
    (owned_drop h.depot st.0 slot h.lanes h.lanes
    (drops_back h.depot (record { slot = slot; generation = generation }) (λ b blocks. Sealed b blocks 0) st.0 st.1) (λ its ne o. o) s)
owned_step h (Close b) new s st = subst AllOwned (sym st.3) s
owned_step h _ new s st = subst AllOwned (sym st.after) s

owned_run : (h : House) (run : List Happened) → AllOwned h → Run h run → AllOwned (last_house h run)
owned_run h [] s r = s
owned_run h (x ∷ xs) s r = owned_run x.house xs (owned_step h x.event x.house s r.0) r.1

pub every_run_owns : (n : ℕ) (start : House) (run : List Happened) → IsStart n start → Run start run → AllOwned (last_house start run)
every_run_owns n start run is r = owned_run start run (λ i slot bytes blocks at held.
    let bad : Free ≡ Draft bytes blocks = sym (each_at IsFreshSlot start.depot.slots i slot is.slots at).held ∙ held in absurd (let f : ⊥ = cc in f)) r

-- where there is no draft and no message, no block is in use
pub none_in_use : (slots : List Slot) → ((i : ℕ) (slot : Slot) (bytes blocks : List ℕ) → slice_get slots i ≡ Some slot → slot.held ≡ Draft bytes blocks → ⊥)
    → ((i : ℕ) (slot : Slot) (bytes blocks : List ℕ) (weight : ℕ) → slice_get slots i ≡ Some slot → slot.held ≡ Sealed bytes blocks weight → ⊥)
    → flat_map (λ (slot : Slot). blocks_of slot.held) slots ≡ []
none_in_use [] f g = refl
none_in_use (x ∷ slots) f g =
    let rest = none_in_use slots (λ i slot bytes blocks at. f (suc i) slot bytes blocks at)
    (λ i slot bytes blocks weight at. g (suc i) slot bytes blocks weight at) in
    by x.held refl rest
  where
    by : (held : Held) → x.held ≡ held → flat_map (λ (slot : Slot). blocks_of slot.held) slots ≡ []
        → flat_map (λ (slot : Slot). blocks_of slot.held) (x ∷ slots) ≡ []
    by Free e rest = rw (e) rest
    by Retired e rest = rw (e) rest
    by (Draft bytes blocks) e rest = absurd (f 0 x bytes blocks refl e)
    by (Sealed bytes blocks weight) e rest = absurd (g 0 x bytes blocks weight refl e)
