-- The steps of lanes, by rank: one of the rank goes on, or none does.
use Rattle.std.proofs.Common.{◌≡◌, ◌≢◌, ◌⊎◌, ℕ, zero, suc, ◌+◌, ◌<◌, ◌≤◌, List, [], ◌∷◌, length, Bool, true, false, Option, Some, None, inl, inr, refl, ap, sym}
use Rattle.std.proofs.Common.{◌∙◌, subst, arith}
use Rattle.std.specs.Prelude.{slice_get, IfSome}
use Rattle.std.proofs.lemmas.Option.{slice_get_within}
use Rattle.std.proofs.Math.Bool.{Bool-discrete}
use Rattle.std.proofs.Math.Decide.{dec_le, dec_lt}
use Rattle.std.proofs.Math.Logic.Dec
use Rattle.mail_world.specs.declared.Event.{Event}
use Rattle.mail_world.specs.declared.Event.TheVariants.{Cancel, Seal, Split, Offer, HandBack, Collect, Reclaim}
use Rattle.mail_world.specs.Depot.{Key, Held, Free, Draft, Sealed, Retired, Slot}
use Rattle.mail_world.specs.House.{Hold, Box, Lane, House}
use Rattle.mail_world.specs.Events.{MayHappen, LaneIs, BoxIs}
use Rattle.mail_world.proofs.Depots.{used}
use Rattle.mail_world.proofs.WrongSteps.{same_some}
use Rattle.mail_progress.specs.Orderly.{IsInOrder, not_taken}
use Rattle.mail_progress.specs.GoingOn.{GoesOn}
use Rattle.mail_progress.specs.NothingStuck.{AnyHolder, TheLane, AreThere}
use Rattle.mail_progress.specs.InTurn.{rank}
use Rattle.mail_progress.proofs.Search.{search_for}
use Rattle.mail_progress.proofs.Reached.{IsReached}
use Rattle.mail_progress.proofs.Movers.{some_holds, draft_moves, split_moves, offer_moves, back_moves, collect_moves, reclaim_moves}
use Rattle.mail_progress.proofs.AllFinished.{goes_on}
use Rattle.mail_progress.proofs.Ranks.{HasRank, IsDecided, NoneBelow}

-- no lane is so
abbrev NoLane : House → (ℕ → Lane → Type 0) → Type 0
NoLane h P = (k : ℕ) (lane : Lane) → LaneIs h k lane → P k lane → ⊥

-- a draft
abbrev HasDraft : Lane → Type 0
HasDraft lane = (key : Key) × (lane.draft ≡ Some key)

has_draft : (lane : Lane) → Dec (HasDraft lane)
has_draft lane = by lane.draft refl
  where
    by : (draft : Option Key) → lane.draft ≡ draft → Dec (HasDraft lane)
    by None e = no (λ d. cc)
    by (Some key) e = yes (key, e)

no_draft : (h : House) → NoLane h (λ k lane. HasDraft lane) → (event : Event) → MayHappen h event → rank event ≡ 0 → ⊥
no_draft h none (Seal k n) happens e = none k happens.1.lane happens.1.is (happens.1.key, happens.1.draft)
no_draft h none (Cancel k) happens e = none k happens.1.lane happens.1.is (happens.1.key, happens.1.draft)
no_draft h none event happens e = absurd (omega arith)

draft_ranks : (room blocks : ℕ) (next : ℕ → ℕ) (h : House) → IsReached room blocks h → (k : ℕ) (lane : Lane) → LaneIs h k lane → HasDraft lane
    → HasRank room next h 0
unfolding draft_moves
draft_ranks room blocks next h f k lane at draft = (goes_on (TheLane k) room next h (draft_moves room blocks next h f k lane draft.0 at draft.1), refl)

pub drafts_decided : (room blocks : ℕ) (next : ℕ → ℕ) (h : House) → IsReached room blocks h → IsDecided room next h 0
drafts_decided room blocks next h f = elim (search_for (λ k lane. HasDraft lane) h.lanes (λ k lane at. has_draft lane)) [
  | inl there ↦ inl (draft_ranks room blocks next h f there.0 there.1 there.2 there.3)
  | inr none ↦ inr (λ m e. no_draft h none m.event m.happens e)
]

-- a hold to split
abbrev IsHeavy : ℕ → Hold → Type 0
IsHeavy i hold = 2 ≤ hold.weight

abbrev HasHeavy : Lane → Type 0
HasHeavy lane = (i : ℕ) × (hold : Hold) × (slice_get lane.holds i ≡ Some hold) × IsHeavy i hold

has_heavy : (lane : Lane) → Dec (HasHeavy lane)
has_heavy lane = elim (search_for IsHeavy lane.holds (λ i hold at. dec_le 2 hold.weight)) [
  | inl there ↦ yes there
  | inr none ↦ no (λ has. none has.0 has.1 has.2 has.3)
]

no_heavy : (h : House) → NoLane h (λ k lane. HasHeavy lane) → (event : Event) → MayHappen h event → rank event ≡ 1 → ⊥
no_heavy h none (Split k i) happens e =
    let some = happens.1.above in
    none k happens.1.lane happens.1.is (i, record { key = happens.1.key; weight = happens.1.weight + 1 }, happens.1.hold, omega arith)
no_heavy h none event happens e = absurd (omega arith)

heavy_ranks : (room : ℕ) (next : ℕ → ℕ) (h : House) (k : ℕ) (lane : Lane) → LaneIs h k lane → HasHeavy lane → HasRank room next h 1
unfolding split_moves
heavy_ranks room next h k lane at has = (goes_on (TheLane k) room next h (split_moves room next h k has.0 lane has.1 at has.2 has.3), refl)

pub splits_decided : (room : ℕ) (next : ℕ → ℕ) (h : House) → IsDecided room next h 1
splits_decided room next h = elim (search_for (λ k lane. HasHeavy lane) h.lanes (λ k lane at. has_heavy lane)) [
  | inl there ↦ inl (heavy_ranks room next h there.0 there.1 there.2 there.3)
  | inr none ↦ inr (λ m e. no_heavy h none m.event m.happens e)
]

-- a copy to offer, to a channel that is closed or has room
abbrev IsReady : House → Box → Type 0
IsReady h box = (box.closed ≡ true) ⊎ (not_taken box < h.capacity)

is_ready : (h : House) (box : Box) → Dec (IsReady h box)
is_ready h box = elim (Bool-discrete box.closed true) [
  | yes closed ↦ yes (inl closed)
  | no opened ↦ elim (dec_lt (not_taken box) h.capacity) [
    | yes low ↦ yes (inr low)
    | no full ↦ no (λ ready. elim ready [ inl closed ↦ opened closed | inr low ↦ full low ])
  ]
]

record HasCopyToGive (next : ℕ → ℕ) (h : House) (k : ℕ) (lane : Lane) : Type 0 where
  some : lane.holds ≢ []
  box : Box
  channel : BoxIs h (next k) box
  ready : IsReady h box

has_copy : (next : ℕ → ℕ) (h : House) → AreThere next h → (k : ℕ) (lane : Lane) → LaneIs h k lane → Dec (HasCopyToGive next h k lane)
has_copy next h all k lane at = elim (some_holds lane) [
  | inr idle ↦ no (λ has. has.some idle)
  | inl some ↦ let b = all k lane at in elim (is_ready h b.0) [
    | yes ready ↦ yes (record { some = some; box = b.0; channel = b.1; ready = ready })
    | no bad ↦ no (λ has. bad (subst (IsReady h) (same_some (slice_get h.boxes (next k)) has.box b.0 has.channel b.1) has.ready))
  ]
]

some_of : {A : Type 0} (xs : List A) (i : ℕ) (x : A) → slice_get xs i ≡ Some x → xs ≢ []
some_of xs i x at e = let low = slice_get_within xs i x at in let none : length xs ≡ 0 = ap length e in absurd (omega arith)

no_copy : (next : ℕ → ℕ) (h : House) (room : ℕ) → NoLane h (HasCopyToGive next h) → (event : Event) → GoesOn next h event → IsInOrder room h event
    → MayHappen h event → rank event ≡ 2 → ⊥
no_copy next h room none (Offer k note) g o happens e =
    let st = happens.1 in
    let low : not_taken st.box < h.capacity = subst (λ b. IfSome b (λ (box : Box). not_taken box < h.capacity)) st.channel o in
    none k st.lane st.is (record {
      some = some_of st.lane.holds st.at _ st.copy.hold;
      box = st.box;
      channel = ap (slice_get h.boxes) (sym g)
          ∙ st.channel;
      ready = inr low;
    })
no_copy next h room none (HandBack k i b) g o happens e =
    let st = happens.1 in
    none k st.lane st.is (record {
      some = some_of st.lane.holds i _ st.copy.hold;
      box = g.1.0;
      channel = ap (slice_get h.boxes) (sym g.0)
          ∙ g.1.1;
      ready = inl g.1.2;
    })
no_copy next h room none event g o happens e = absurd (omega arith)

one_ranks : (room blocks : ℕ) (next : ℕ → ℕ) (h : House) → IsReached room blocks h → (k : ℕ) (lane : Lane) (hold : Hold) (box : Box) → LaneIs h k lane
    → slice_get lane.holds 0 ≡ Some hold → hold.weight ≡ 1
    → BoxIs h (next k) box → IsReady h box → (t : Bool) → box.closed ≡ t → HasRank room next h 2
unfolding back_moves offer_moves
one_ranks room blocks next h f k lane hold box at there one channel ready true e =
    (goes_on (TheLane k) room next h (back_moves room blocks next h f k lane hold box at there one channel e), refl)
one_ranks room blocks next h f k lane hold box at there one channel (inl closed) false e = cc
one_ranks room blocks next h f k lane hold box at there one channel (inr low) false e =
    (goes_on (TheLane k) room next h (offer_moves room blocks next h f (omega arith) k lane hold box at there one channel e (omega arith)), refl)

copy_ranks : (room blocks : ℕ) (next : ℕ → ℕ) (h : House) → IsReached room blocks h → NoneBelow room next h 2 → (k : ℕ) (lane : Lane) → LaneIs h k lane
    → HasCopyToGive next h k lane → HasRank room next h 2
copy_ranks room blocks next h f below k lane at has = by lane.holds refl
  where
    weight_by : (hold : Hold) → slice_get lane.holds 0 ≡ Some hold → (n : ℕ) → hold.weight ≡ n → HasRank room next h 2
    weight_by hold there zero e = let some = f.kept.some k lane 0 hold at there in absurd (omega arith)
    weight_by hold there (suc zero) e = one_ranks room blocks next h f k lane hold has.box at there e has.channel has.ready has.box.closed refl
    weight_by hold there (suc (suc n)) e =
        let split = heavy_ranks room next h k lane at (0, hold, there, omega arith) in
        let low = below split.0 in let one = split.1 in absurd (omega arith)

    by : (holds : List Hold) → lane.holds ≡ holds → HasRank room next h 2
    by [] e = absurd (has.some e)
    by (hold ∷ holds) e = weight_by hold (ap (λ hs. slice_get hs 0) e) hold.weight refl

pub offers_decided : (room blocks : ℕ) (next : ℕ → ℕ) (h : House) → IsReached room blocks h → AreThere next h → NoneBelow room next h 2
    → IsDecided room next h 2
offers_decided room blocks next h f all below = elim (search_for (HasCopyToGive next h) h.lanes (has_copy next h all)) [
  | inl there ↦ inl (copy_ranks room blocks next h f below there.0 there.1 there.2 there.3)
  | inr none ↦ inr (λ m e. no_copy next h room none m.event m.goes_on m.in_order m.happens e)
]

-- a slip to collect, of a lane that gave its copies away
abbrev HasSlip : Lane → Type 0
HasSlip lane = (lane.collected < length lane.slips) × (lane.holds ≡ [])

has_slip : (lane : Lane) → Dec (HasSlip lane)
has_slip lane = Dec.and (dec_lt lane.collected (length lane.slips)) (elim (some_holds lane) [ inl some ↦ no some | inr idle ↦ yes idle ])

no_slip : (h : House) (room : ℕ) → NoLane h (λ k lane. HasSlip lane) → (event : Event) → IsInOrder room h event → MayHappen h event → rank event ≡ 10 → ⊥
no_slip h room none (Collect k) o happens e =
    let st = happens.1 in
    none k st.lane st.is (slice_get_within st.lane.slips st.lane.collected st.slip st.oldest, subst (λ b. IfSome b (λ (lane : Lane). lane.holds ≡ [])) st.is o)
no_slip h room none event o happens e = absurd (omega arith)

slip_ranks : (room : ℕ) (next : ℕ → ℕ) (h : House) (k : ℕ) (lane : Lane) → LaneIs h k lane → HasSlip lane → HasRank room next h 10
unfolding collect_moves
slip_ranks room next h k lane at has = (goes_on (TheLane k) room next h (collect_moves room next h k lane at has.0 has.1), refl)

pub collects_decided : (room : ℕ) (next : ℕ → ℕ) (h : House) → IsDecided room next h 10
collects_decided room next h = elim (search_for (λ k lane. HasSlip lane) h.lanes (λ k lane at. has_slip lane)) [
  | inl there ↦ inl (slip_ranks room next h there.0 there.1 there.2 there.3)
  | inr none ↦ inr (λ m e. no_slip h room none m.event m.in_order m.happens e)
]

-- a message that nobody holds
abbrev IsSpent : ℕ → Slot → Type 0
IsSpent i slot = (bytes : List ℕ) × (its : List ℕ) × (slot.held ≡ Sealed bytes its 0)

is_spent : (i : ℕ) (slot : Slot) → Dec (IsSpent i slot)
is_spent i slot = by slot.held refl
  where
    by : (held : Held) → slot.held ≡ held → Dec (IsSpent i slot)
    by (Sealed bytes its zero) e = yes (bytes, its, e)
    by (Sealed bytes its (suc weight)) e = no (λ spent. cc)
    by Free e = no (λ spent. cc)
    by (Draft bytes its) e = no (λ spent. cc)
    by Retired e = no (λ spent. cc)

no_spent : (h : House) → ((i : ℕ) (slot : Slot) → slice_get h.depot.slots i ≡ Some slot → IsSpent i slot → ⊥) → (event : Event) → MayHappen h event
    → rank event ≡ 11 → ⊥
no_spent h none (Reclaim i generation) happens e =
    let r = happens.1.1 in
    let key : Key = record { slot = i; generation = generation } in
    none i _ (used h.depot key (Sealed r.bytes r.blocks 0) r.message (λ e. cc)) (r.bytes, r.blocks, refl)
no_spent h none event happens e = absurd (omega arith)

spent_ranks : (room : ℕ) (next : ℕ → ℕ) (h : House) (i : ℕ) (slot : Slot) → slice_get h.depot.slots i ≡ Some slot → IsSpent i slot → HasRank room next h 11
unfolding reclaim_moves
spent_ranks room next h i slot at spent =
    let key : Key = record { slot = i; generation = slot.generation } in
    (goes_on (λ who. who ≡ AnyHolder key) room next h (reclaim_moves room next h i slot spent.0 spent.1 at spent.2), refl)

pub reclaims_decided : (room : ℕ) (next : ℕ → ℕ) (h : House) → IsDecided room next h 11
reclaims_decided room next h = elim (search_for IsSpent h.depot.slots (λ i slot at. is_spent i slot)) [
  | inl there ↦ inl (spent_ranks room next h there.0 there.1 there.2 there.3)
  | inr none ↦ inr (λ m e. no_spent h none m.event m.happens e)
]
