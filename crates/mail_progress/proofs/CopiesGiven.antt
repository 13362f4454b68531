-- In an orderly run a lane gives away all copies of a message before it begins another.
use Rattle.std.proofs.Common.{◌≡◌, ◌≢◌, ◌⊎◌, ℕ, suc, ◌+◌, ◌<◌, List, [], ◌∷◌, ◌++◌, length, map, Some, inl, inr, refl, ap, sym, ◌∙◌, subst, arith, append-nil}
use Rattle.std.proofs.Common.{append_assoc, length-append}
use Rattle.std.specs.Prelude.{slice_get, slice_set, remove}
use Rattle.std.specs.List.{AllByRecursion}
use Rattle.std.proofs.lemmas.Bool.{eq-eqb}
use Rattle.std.proofs.lemmas.Option.{slice_get_within}
use Rattle.mail_world.specs.declared.Event.{Event}
use Rattle.mail_world.specs.declared.Event.TheVariants.{Begin, Cancel, Seal, Split, Offer, HandBack, Collect}
use Rattle.mail_world.specs.declared.Event.TheVariants.{GiveSlip, Reclaim, Close}
use Rattle.mail_world.specs.House.{Hold, SealedMessage, Lane, House, IsFreshLane, IsStart}
use Rattle.mail_world.specs.Events.{Step, LaneIs}
use Rattle.mail_world.specs.Runs.{Happened, Run, last_house, events_of}
use Rattle.mail_world.proofs.Accepted.{get_set, each_at}
use Rattle.mail_world.proofs.LastSeal.{length_set}
use Rattle.mail_world.proofs.Once.{get_more}
use Rattle.mail_world.proofs.OneLine.{other_byte}
use Rattle.mail_progress.specs.Orderly.{IsOrderly}
use Rattle.mail_progress.specs.Finished.{sealed_by, copies_sealed}
use Rattle.mail_world.proofs.Holds.{sum_set, sum_remove}
use Rattle.mail_progress.proofs.Sums.{sum_last}
use Rattle.mail_progress.proofs.Within.{to_give, AllWithin, within_step, within_start}
use Rattle.mail_progress.proofs.Kept.{IsSome, KeptSoFar, kept_step, kept_start}
use Rattle.mail_progress.proofs.Tracked.{AreLast, AllTracked, last_of_its_key, no_hold, tracked_step, tracked_start}

-- messages that were sealed for that many copies each: of the last one some are still to be given away, of the others none
pub record AreSealedFor (ts : List SealedMessage) (rest : ℕ) (ns : List ℕ) : Type 0 where
  pub count : length ns ≡ length ts
  pub before : (i n : ℕ) (t : SealedMessage) → slice_get ts i ≡ Some t → slice_get ns i ≡ Some n → i + 1 < length ts → t.offered ≡ n
  pub last : (i n : ℕ) (t : SealedMessage) → slice_get ts i ≡ Some t → slice_get ns i ≡ Some n → length ts ≡ i + 1 → t.offered + rest ≡ n

abbrev LaneSealedFor : Lane → List ℕ → Type 0
LaneSealedFor lane ns = AreSealedFor lane.messages (to_give lane.holds) ns

abbrev pub AllSealedFor : (ℕ → List ℕ) → House → Type 0
AllSealedFor ns h = (k : ℕ) (lane : Lane) → LaneIs h k lane → LaneSealedFor lane (ns k)

before_last : (i n : ℕ) → i < n → (i + 1 < n) ⊎ (n ≡ i + 1)
before_last i n low = grind arith

-- one more message, where nothing is left of the one before
sealed_more : (ts : List SealedMessage) (ns : List ℕ) (t : SealedMessage) (n : ℕ) → t.offered ≡ 0 → AreSealedFor ts 0 ns
    → AreSealedFor (ts ++ t ∷ []) n (ns ++ n ∷ [])
sealed_more ts ns t n none g =
    let longer : length (ts ++ t ∷ []) ≡ length ts + 1 = length-append ts (t ∷ []) in
    let counts : length (ns ++ n ∷ []) ≡ length ns + 1 = length-append ns (n ∷ []) in
    record {
      count = let c = g.count in omega arith;
      before = λ i m u at its low. elim (get_more ts t u i at) [
        | inr new ↦ let here = new.0 in absurd (omega arith)
        | inl old ↦ elim (get_more ns n m i its) [
          | inr new ↦ let here = new.0 in let c = g.count in absurd (omega arith)
          | inl old' ↦ whole i m u old old'
        ]
      ];
      last = λ i m u at its top. elim (get_more ts t u i at) [
        | inl old ↦ let low = slice_get_within ts i u old in absurd (omega arith)
        | inr new ↦ elim (get_more ns n m i its) [
          | inl old ↦ let low = slice_get_within ns i m old in let c = g.count in absurd (omega arith)
          | inr new' ↦ let same : t.offered ≡ u.offered = ap (λ (x : SealedMessage). x.offered) new.1 in let number = new'.1 in omega arith
        ]
      ];
    }
  where
    whole : (i m : ℕ) (u : SealedMessage) → slice_get ts i ≡ Some u → slice_get ns i ≡ Some m → u.offered ≡ m
    whole i m u at its = elim (before_last i (length ts) (slice_get_within ts i u at)) [
      | inl low ↦ g.before i m u at its low
      | inr top ↦ let e = g.last i m u at its top in omega arith
    ]

-- one copy of the last message goes
one_away : (ts : List SealedMessage) (ns : List ℕ) (i rest : ℕ) (t : SealedMessage) → slice_get ts i ≡ Some t → length ts ≡ i + 1
    → AreSealedFor ts (rest + 1) ns → AreSealedFor (slice_set ts i (record t { offered = t.offered + 1 })) rest ns
one_away ts ns i rest t is top g =
    let new : SealedMessage = record t { offered = t.offered + 1 } in
    let len : length (slice_set ts i new) ≡ length ts = length_set ts i new in
    record {
      count = let c = g.count in omega arith;
      before = λ j n u at its low. elim (get_set ts i j new u at) [
        | inl here ↦ let same = here.0 in absurd (omega arith)
        | inr other ↦ g.before j n u other.1 its (omega arith)
      ];
      last = λ j n u at its at_top. elim (get_set ts i j new u at) [
        | inl here ↦
            let same : i ≡ j = sym here.0 in
            let e : t.offered + (rest + 1) ≡ n = g.last i n t is (ap (slice_get ns) same ∙ its) top in
            let more : t.offered + 1 ≡ u.offered = ap (λ (x : SealedMessage). x.offered) here.1 in omega arith
        | inr other ↦ absurd (other.0 (omega arith))
      ];
    }

-- what an event does to the messages of a lane
record Goes (k : ℕ) (e : Event) (old new : Lane) : Type 0 where
  goes : (ns : List ℕ) → LaneSealedFor old ns → LaneSealedFor new (ns ++ sealed_by k e)

goes_as : (k : ℕ) (e : Event) (old new : Lane) → sealed_by k e ≡ [] → new.messages ≡ old.messages → to_give new.holds ≡ to_give old.holds → Goes k e old new
goes_as k e old new none messages holds =
    record { goes = λ ns g. subst (λ ms. LaneSealedFor new (ns ++ ms)) (sym none) (subst (LaneSealedFor new) (sym (append-nil ns)) (rw (messages, holds) g)) }

goes_away : (k i at : ℕ) (e : Event) (old new : Lane) (n : ℕ) (t : SealedMessage) → sealed_by k e ≡ [] → AreLast old.messages old.holds n
    → slice_get old.holds at ≡ Some (record { key = t.key; weight = 1 }) → slice_get old.messages i ≡ Some t
    → new.messages ≡ slice_set old.messages i (record t { offered = t.offered + 1 }) → new.holds ≡ remove old.holds at → Goes k e old new
goes_away k i at e old new n t none last hold is messages holds = record {
  goes = λ ns g.
      let less : to_give (remove old.holds at) + 1 ≡ to_give old.holds =
      sum_remove (λ (x : Hold). x.weight) old.holds at (record { key = t.key; weight = 1 }) hold in
      let top : length old.messages ≡ i + 1 = last_of_its_key old.messages old.holds n i at t hold is last in
      let now = one_away old.messages ns i (to_give (remove old.holds at)) t is top (subst (λ w. AreSealedFor old.messages w ns) (sym less) g) in
      subst (λ ms. LaneSealedFor new (ns ++ ms)) (sym none) (subst (LaneSealedFor new) (sym (append-nil ns)) (rw (messages, holds) now));
}

-- the lanes of a house
one_lane : (h new : House) (e : Event) (v : ℕ) (old changed : Lane) → new.lanes ≡ slice_set h.lanes v changed → LaneIs h v old → Goes v e old changed
    → ((k : ℕ) → v ≢ k → sealed_by k e ≡ [])
    → (ns : ℕ → List ℕ) → AllSealedFor ns h → AllSealedFor (λ k. ns k ++ sealed_by k e) new
one_lane h new e v old changed lanes was here elsewhere ns all k lane is =
    elim (get_set h.lanes v k changed lane (ap (λ ls. slice_get ls k) (sym lanes) ∙ is)) [
      | inl at ↦ let P : Lane → Type 0 = λ x. LaneSealedFor x (ns k ++ sealed_by k e) in
          let Q : ℕ → Type 0 = λ n. LaneSealedFor changed (ns n ++ sealed_by n e) in
          subst P at.1 (subst Q (sym at.0) (here.goes (ns v) (all v old was)))
      | inr other ↦ (goes_as k e lane lane (elsewhere k (λ s. other.0 (sym s))) refl refl).goes (ns k) (all k lane other.1)
    ]

no_lane : (h new : House) (e : Event) → new.lanes ≡ h.lanes → ((k : ℕ) → sealed_by k e ≡ []) → (ns : ℕ → List ℕ) → AllSealedFor ns h
    → AllSealedFor (λ k. ns k ++ sealed_by k e) new
no_lane h new e lanes none ns all k lane is = (goes_as k e lane lane (none k) refl refl).goes (ns k) (all k lane (ap (λ ls. slice_get ls k) (sym lanes) ∙ is))

sealed_step : (room : ℕ) (h : House) (e : Event) (new : House) → AllWithin room h → KeptSoFar h → AllTracked h → Step h e new → (ns : ℕ → List ℕ)
    → AllSealedFor ns h → AllSealedFor (λ k. ns k ++ sealed_by k e) new
sealed_step room h (Begin k) new w kept s st =
    one_lane h new (Begin k) k st.lane _ (ap (λ (x : House). x.lanes) st.after) st.is (goes_as k (Begin k) st.lane _ refl refl refl) (λ v ne. refl)
sealed_step room h (Cancel k) new w kept s st =
    one_lane h new (Cancel k) k st.lane _ (ap (λ (x : House). x.lanes) st.after) st.is (goes_as k (Cancel k) st.lane _ refl refl refl) (λ v ne. refl)
sealed_step room h (Seal k n) new w kept s st =
    let idle : st.lane.holds ≡ [] =
    no_hold st.lane.holds (each_at (λ (l : Lane). AllByRecursion IsSome l.holds) h.lanes k st.lane kept.lanes st.is)
    (let p = (w k st.lane st.is).drafting st.key st.draft in omega arith) in
    let hold : Hold = record { key = st.key; weight = n } in
    let t : SealedMessage = record { number = st.lane.number; key = st.key; message = st.seals.bytes; offered = 0 } in
    let weight : to_give (st.lane.holds ++ hold ∷ []) ≡ n = let nothing : to_give st.lane.holds ≡ 0 = ap to_give idle in
    omega (arith, sum_last (λ (x : Hold). x.weight) st.lane.holds hold) in
    let nothing : to_give st.lane.holds ≡ 0 = ap to_give idle in
    let own : sealed_by k (Seal k n) ≡ n ∷ [] = rw (eq-eqb k k refl) refl in
    one_lane h new (Seal k n) k st.lane _ (ap (λ (x : House). x.lanes) st.after) st.is
    (record { goes = λ ns g. rw (weight, own) (sealed_more st.lane.messages ns t n refl (subst (λ r. AreSealedFor st.lane.messages r ns) nothing g)) })
    (λ v ne. rw (other_byte k v ne) refl)
sealed_step room h (Split k i) new w kept s st =
    let rest : Hold = record { key = st.key; weight = st.weight } in
    let one : Hold = record { key = st.key; weight = 1 } in
    let same : to_give (slice_set st.lane.holds i rest ++ one ∷ []) ≡ to_give st.lane.holds =
    omega (
      arith,
      sum_set (λ (hold : Hold). hold.weight) st.lane.holds i (record { key = st.key; weight = st.weight + 1 }) rest st.hold,
      sum_last (λ (hold : Hold). hold.weight) (slice_set st.lane.holds i rest) one,
    ) in
    one_lane h new (Split k i) k st.lane _ (ap (λ (x : House). x.lanes) st.after) st.is (goes_as k (Split k i) st.lane _ refl refl same) (λ v ne. refl)
sealed_step room h (Offer k note) new w kept s st =
    let t : SealedMessage = record { number = note.txn.number; key = st.key; message = note.message; offered = note.place } in
    one_lane h new (Offer k note) k st.lane _ (ap (λ (x : House). x.lanes) st.after) st.is
    (goes_away k st.t st.at (Offer k note) st.lane _ (length st.lane.gather.places) t refl (s k st.lane st.is).last st.copy.hold st.copy.is refl refl)
    (λ v ne. refl)
sealed_step room h (HandBack k i m) new w kept s st =
    one_lane h new (HandBack k i m) k st.lane _ (ap (λ (x : House). x.lanes) st.after) st.is
    (goes_away k st.t i (HandBack k i m) st.lane _ (length st.lane.gather.places) st.sealed refl (s k st.lane st.is).last st.copy.hold st.copy.is refl refl)
    (λ v ne. refl)
sealed_step room h (Collect k) new w kept s st =
    one_lane h new (Collect k) k st.lane _ (ap (λ (x : House). x.lanes) st.after) st.is (goes_as k (Collect k) st.lane _ refl refl refl) (λ v ne. refl)
sealed_step room h (GiveSlip x o) new w kept s st =
    let k = st.copy.post.note.txn.lane in
    one_lane h new (GiveSlip x o) k st.lane _ (ap (λ (x : House). x.lanes) st.after) st.to (goes_as k (GiveSlip x o) st.lane _ refl refl refl) (λ v ne. refl)
sealed_step room h (Reclaim slot generation) new w kept s st = no_lane h new (Reclaim slot generation) (ap (λ (x : House). x.lanes) st.2) (λ v. refl)
sealed_step room h (Close b) new w kept s st = no_lane h new (Close b) (ap (λ (x : House). x.lanes) st.3) (λ v. refl)
sealed_step room h event new w kept s st = no_lane h new event (ap (λ (x : House). x.lanes) st.after) (λ v. refl)

sealed_run : (room : ℕ) (h : House) (run : List Happened) → AllWithin room h → KeptSoFar h → AllTracked h → Run h run → IsOrderly room h run → (ns : ℕ → List ℕ)
    → AllSealedFor ns h → AllSealedFor (λ k. ns k ++ copies_sealed k (events_of run)) (last_house h run)
sealed_run room h [] w kept s r o ns g k lane is = subst (LaneSealedFor lane) (sym (append-nil (ns k))) (g k lane is)
sealed_run room h (x ∷ xs) w kept s r o ns g k lane is =
    let rest = sealed_run room x.house xs (within_step room h x.event x.house w r.0 o.0) (kept_step h x.event x.house kept r.0)
    (tracked_step room h x.event x.house w kept s r.0) r.1 o.1 (λ v. ns v ++ sealed_by v x.event)
    (sealed_step room h x.event x.house w kept s r.0 ns g) in
    subst (LaneSealedFor lane) (append_assoc (ns k) (sealed_by k x.event) (copies_sealed k (events_of xs))) (rest k lane is)

sealed_start : (blocks : ℕ) (h : House) → IsStart blocks h → AllSealedFor (λ k. []) h
sealed_start blocks h start k lane is =
    let f = each_at IsFreshLane h.lanes k lane start.lanes is in
    let none : (i : ℕ) (t : SealedMessage) → slice_get lane.messages i ≡ Some t → ⊥ =
    λ i t at. let bad : slice_get {X = SealedMessage} [] i ≡ Some t = ap (λ ts. slice_get ts i) (sym f.messages) ∙ at in cc in
    record { count = ap length (sym f.messages); before = λ i n t at its low. absurd (none i t at); last = λ i n t at its top. absurd (none i t at) }

pub every_orderly_sealed_for : (room blocks : ℕ) (start : House) (run : List Happened) → IsStart blocks start → Run start run → IsOrderly room start run
    → AllSealedFor (λ k. copies_sealed k (events_of run)) (last_house start run)
every_orderly_sealed_for room blocks start run is r o =
    sealed_run room start run (within_start room blocks start is) (kept_start blocks start is) (tracked_start blocks start is) r o (λ k. [])
    (sealed_start blocks start is)

-- where nothing is left of the last one, as many were given away of each as it was sealed for
pub all_given : (ts : List SealedMessage) (ns : List ℕ) → AreSealedFor ts 0 ns → map (λ (t : SealedMessage). t.offered) ts ≡ ns
all_given ts ns g = same_lists ts ns g.count (λ i n t at its. elim (before_last i (length ts) (slice_get_within ts i t at)) [
  | inl low ↦ g.before i n t at its low
  | inr top ↦ let e = g.last i n t at its top in omega arith
])
  where
    same_lists : (ts : List SealedMessage) (ns : List ℕ) → length ns ≡ length ts
        → ((i n : ℕ) (t : SealedMessage) → slice_get ts i ≡ Some t → slice_get ns i ≡ Some n → t.offered ≡ n) → map (λ (t : SealedMessage). t.offered) ts ≡ ns
    same_lists [] [] e f = refl
    same_lists [] (n ∷ ns) e f = cc
    same_lists (t ∷ ts) [] e f = cc
    same_lists (t ∷ ts) (n ∷ ns) e f = let here : t.offered ≡ n = f 0 n t refl refl in let rest =
        same_lists ts ns (omega arith) (λ i m u at its. f (suc i) m u at its) in rw (here, rest) refl
