-- In an orderly run whatever is under way is moved.
use Rattle.std.proofs.Common.{◌≡◌, ◌≢◌, ◌⊎◌, ℕ, zero, suc, ◌+◌, ◌<◌, ◌≤◌, List, [], ◌∷◌, length, drop, map, Bool, true, false, Option, Some}
use Rattle.std.proofs.Common.{None, inl, inr, refl, ap, sym, ◌∙◌, subst, arith}
use Rattle.std.specs.Prelude.{slice_get, flat_map, IfSome, sum_by, count_by, find, option_map, nat_lt, cond}
use Rattle.std.specs.List.{list_any, range_with_len}
use Rattle.std.proofs.lemmas.List.Sums.{sum_by-append}
use Rattle.std.proofs.lemmas.Bool.Decides.{nat_tests}
use Rattle.std.proofs.lemmas.Option.{slice_get_within}
use Rattle.mail_world.specs.declared.Outcome.{Outcome}
use Rattle.mail_world.specs.declared.Slip.{Slip}
use Rattle.mail_world.specs.declared.Txn.{Txn}
use Rattle.mail_world.specs.Slips.{txn_of, names, times_named, answer, answers}
use Rattle.mail_world.proofs.GivenAway.{is_given, count-cons, count_some}
use Rattle.mail_progress.proofs.Tracked.{way_at, IsTracked, last_there}
use Rattle.std.proofs.lemmas.Bool.{eq-eqb}
use Rattle.std.proofs.lemmas.List.{drop_all}
use Rattle.mail_world.specs.declared.Note.{Note}
use Rattle.mail_world.specs.declared.Event.TheVariants.{Seal, Split, Offer, HandBack, Collect, Reclaim}
use Rattle.mail_world.specs.Depot.{Key, Slot, Sealed, held_under, weight_held, weight_under, Depot}
use Rattle.mail_world.specs.House.{Hold, Post, Copy, Box, SealedMessage, Lane, House}
use Rattle.mail_world.specs.Events.{LaneIs, BoxIs}
use Rattle.mail_world.specs.Runs.{last_house, hold_of, posts_of, is_same_key, weight_of, holds_of}
use Rattle.mail_world.proofs.Accepted.{each_at}
use Rattle.mail_world.proofs.Once.{is_copy}
use Rattle.mail_world.proofs.OtherSteps.{there_is}
use Rattle.mail_world.proofs.OtherSteps as step
use Rattle.mail_progress.specs.Orderly.{not_taken, on_way}
use Rattle.mail_progress.specs.NothingStuck.{Mover, AnyHolder, IsMovedBy, TheLane, TheWorker, LaneOrWorker, HasToOffer, IsOpenAndFull, IsAtWork, HasHold}
use Rattle.mail_progress.specs.NothingStuck.{IsHolder, HasCopyFor, AreThere, AreClosed, NothingIsStuck, NothingIsStuckWhenClosed}
use Rattle.mail_progress.proofs.Within.{to_give}
use Rattle.mail_progress.proofs.Found.{found_in}
use Rattle.mail_progress.proofs.Kept.{capacity_run}
use Rattle.mail_progress.proofs.Reached.{IsReached, reached, widen}
use Rattle.mail_progress.proofs.CopyMovers.{hand_moves, accepted_moves}

-- a copy to offer
unfoldable pub split_moves : (room : ℕ) (next : ℕ → ℕ) (h : House) (k i : ℕ) (lane : Lane) (hold : Hold) → LaneIs h k lane → slice_get lane.holds i ≡ Some hold
    → 2 ≤ hold.weight → IsMovedBy (TheLane k) room next h
split_moves room next h k i lane hold at there heavy =
    record { event = Split k i; by = refl; goes_on = tt; in_order = tt; happens = step.split h k i lane hold at there heavy }

unfoldable pub offer_moves : (room blocks : ℕ) (next : ℕ → ℕ) (h : House) → IsReached room blocks h → 1 ≤ h.capacity
    → (k : ℕ) (lane : Lane) (hold : Hold) (box : Box) → LaneIs h k lane → slice_get lane.holds 0 ≡ Some hold → hold.weight ≡ 1
    → BoxIs h (next k) box → box.closed ≡ false → length box.accepted < box.taken + h.capacity → IsMovedBy (TheLane k) room next h
offer_moves room blocks next h f c k lane hold box at there one channel opened low =
    let of = each_at _ lane.holds 0 hold (f.holds.of_lanes k lane at) there in
    let m : SealedMessage = of.message in
    let note : Note = record {
      txn = record { lane = k; number = m.number };
      place = m.offered;
      mailbox = next k;
      sender = [];
      client = [];
      utf8 = false;
      moment = 0;
      message = m.message;
    } in
    let below : not_taken box < h.capacity = omega arith in
    record {
      event = Offer k note;
      by = refl;
      goes_on = refl;
      in_order = subst (λ o. IfSome o (λ (b : Box). not_taken b < h.capacity)) (sym channel) below;
      happens = step.offer h k 0 of.place m.key note lane box at (step.copy_of lane 0 of.place hold m there of.key one of.is) refl channel opened low;
    }

unfoldable pub back_moves : (room blocks : ℕ) (next : ℕ → ℕ) (h : House) → IsReached room blocks h → (k : ℕ) (lane : Lane) (hold : Hold) (box : Box)
    → LaneIs h k lane → slice_get lane.holds 0 ≡ Some hold → hold.weight ≡ 1
    → BoxIs h (next k) box → box.closed ≡ true → IsMovedBy (TheLane k) room next h
back_moves room blocks next h f k lane hold box at there one channel closed =
    record {
      event = HandBack k 0 (next k);
      by = refl;
      goes_on = (refl, (box, channel, closed));
      in_order = tt;
      happens = f.backs k (next k) lane hold at there one;
    }

pub low_or_full : (a b : ℕ) → (a < b) ⊎ (b ≤ a)
low_or_full a b = grind arith

has_one : (lane : Lane) (hold : Hold) → slice_get lane.holds 0 ≡ Some hold → lane.holds ≢ []
has_one lane hold there e = let bad : None ≡ Some hold = sym (ap (λ hs. slice_get hs 0) e) ∙ there in cc

one_moves : (room blocks : ℕ) (next : ℕ → ℕ) (h : House) → IsReached room blocks h → 1 ≤ h.capacity → (k : ℕ) (lane : Lane) (hold : Hold) (box : Box)
    → LaneIs h k lane → slice_get lane.holds 0 ≡ Some hold → hold.weight ≡ 1
    → BoxIs h (next k) box → (t : Bool) → box.closed ≡ t → IsMovedBy (LaneOrWorker next h k) room next h
one_moves room blocks next h f c k lane hold box at there one channel true e =
    widen (TheLane k) (LaneOrWorker next h k) room next h (λ who by. inl by) (back_moves room blocks next h f k lane hold box at there one channel e)
one_moves room blocks next h f c k lane hold box at there one channel false e = elim (low_or_full (length box.accepted) (box.taken + h.capacity)) [
  | inl low ↦ widen (TheLane k) (LaneOrWorker next h k) room next h (λ who by. inl by)
      (offer_moves room blocks next h f c k lane hold box at there one channel e low)
  | inr full ↦
      let has : HasToOffer h k = (lane, at, has_one lane hold there) in
      let is : IsOpenAndFull h (next k) = (box, channel, e, let above : h.capacity ≤ not_taken box = omega arith in above) in
      widen (TheWorker (next k)) (LaneOrWorker next h k) room next h (λ who by. inr (has, is, by))
      (accepted_moves room blocks next h f (next k) box channel (omega arith))
]

weight_moves : (room blocks : ℕ) (next : ℕ → ℕ) (h : House) → IsReached room blocks h → 1 ≤ h.capacity → AreThere next h
    → (k : ℕ) (lane : Lane) (hold : Hold) → LaneIs h k lane → slice_get lane.holds 0 ≡ Some hold → (n : ℕ) → hold.weight ≡ n
    → IsMovedBy (LaneOrWorker next h k) room next h
weight_moves room blocks next h f c all k lane hold at there zero e = let some = f.kept.some k lane 0 hold at there in absurd (omega arith)
weight_moves room blocks next h f c all k lane hold at there (suc zero) e = let b =
    all k lane at in one_moves room blocks next h f c k lane hold b.0 at there e b.1 b.0.closed refl
weight_moves room blocks next h f c all k lane hold at there (suc (suc n)) e =
    widen (TheLane k) (LaneOrWorker next h k) room next h (λ who by. inl by) (split_moves room next h k 0 lane hold at there (omega arith))

first_hold : (lane : Lane) → lane.holds ≢ [] → (hold : Hold) × (slice_get lane.holds 0 ≡ Some hold)
first_hold lane some = by lane.holds refl
  where
    by : (holds : List Hold) → lane.holds ≡ holds → (hold : Hold) × (slice_get lane.holds 0 ≡ Some hold)
    by [] e = absurd (some e)
    by (hold ∷ holds) e = (hold, ap (λ hs. slice_get hs 0) e)

pub offers_move : (room blocks : ℕ) (next : ℕ → ℕ) (h : House) → IsReached room blocks h → 1 ≤ h.capacity → AreThere next h
    → (k : ℕ) (lane : Lane) → LaneIs h k lane → lane.holds ≢ [] → IsMovedBy (LaneOrWorker next h k) room next h
offers_move room blocks next h f c all k lane at some = let first = first_hold lane some in
    weight_moves room blocks next h f c all k lane first.0 at first.1 first.0.weight refl

-- a slip to collect
unfoldable pub collect_moves : (room : ℕ) (next : ℕ → ℕ) (h : House) (k : ℕ) (lane : Lane) → LaneIs h k lane → lane.collected < length lane.slips
    → lane.holds ≡ [] → IsMovedBy (TheLane k) room next h
collect_moves room next h k lane at some e =
    record {
      event = Collect k;
      by = refl;
      goes_on = tt;
      in_order = subst (λ o. IfSome o (λ (l : Lane). l.holds ≡ [])) (sym at) e;
      happens = step.collect h k lane at some;
    }

-- a draft
unfoldable pub draft_moves : (room blocks : ℕ) (next : ℕ → ℕ) (h : House) → IsReached room blocks h → (k : ℕ) (lane : Lane) (key : Key) → LaneIs h k lane
    → lane.draft ≡ Some key → IsMovedBy (TheLane k) room next h
draft_moves room blocks next h f k lane key at draft =
    record { event = Seal k 1; by = refl; goes_on = tt; in_order = f.some_room; happens = f.seals k lane key at draft }

pub some_holds : (lane : Lane) → (lane.holds ≢ []) ⊎ (lane.holds ≡ [])
some_holds lane = by lane.holds
  where
    by : (holds : List Hold) → (holds ≢ []) ⊎ (holds ≡ [])
    by [] = inr refl
    by (x ∷ xs) = inl (λ e. cc)

-- a mailbox has a copy in hand or to take
abbrev pub IsBusy : Box → Type 0
IsBusy box = (box.taken < length box.accepted) ⊎ ((copy : Copy) × (box.hand ≡ Some copy))

pub busy_or_free : (box : Box) → IsBusy box ⊎ ((box.hand ≡ None) × (drop box.taken box.accepted ≡ []))
busy_or_free box = elim (low_or_full box.taken (length box.accepted)) [
  | inl low ↦ inl (inl low)
  | inr all ↦ by box.hand refl all
]
  where
    by : (hand : Option Copy) → box.hand ≡ hand → length box.accepted ≤ box.taken → IsBusy box ⊎ ((box.hand ≡ None) × (drop box.taken box.accepted ≡ []))
    by None e all = inr (e, drop_all box.taken box.accepted all)
    by (Some copy) e all = inl (inr (copy, e))

busy_posts : (box : Box) → IsBusy box ⊎ (map hold_of (posts_of box) ≡ [])
busy_posts box = elim (busy_or_free box) [
  | inl busy ↦ inl busy
  | inr free ↦ inr (rw (free.0, free.1) refl)
]

pub busy_moves : (room blocks : ℕ) (next : ℕ → ℕ) (h : House) → IsReached room blocks h → (w : ℕ) (box : Box) → BoxIs h w box → IsBusy box
    → IsMovedBy (TheWorker w) room next h
busy_moves room blocks next h f w box at (inl low) = accepted_moves room blocks next h f w box at low
busy_moves room blocks next h f w box at (inr hand) = hand_moves room blocks next h f w box hand.0 at hand.1

-- a message that is sealed
pub under : (h : House) (i : ℕ) (slot : Slot) → slice_get h.depot.slots i ≡ Some slot
    → held_under h.depot (record { slot = i; generation = slot.generation }) ≡ slot.held
under h i slot at = rw (at, eq-eqb slot.generation slot.generation refl) refl

-- a copy to offer is moved
abbrev pub OffersMove : (ℕ → Mover → Type 0) → ℕ → (ℕ → ℕ) → House → Type 0
OffersMove Movers room next h = (k : ℕ) (lane : Lane) → LaneIs h k lane → lane.holds ≢ [] → IsMovedBy (Movers k) room next h

abbrev pub CollectsMove : (ℕ → Mover → Type 0) → ℕ → (ℕ → ℕ) → House → Type 0
CollectsMove Movers room next h = (k : ℕ) (lane : Lane) → LaneIs h k lane → lane.collected < length lane.slips → IsMovedBy (Movers k) room next h

collects_move : (Movers : ℕ → Mover → Type 0) (room : ℕ) (next : ℕ → ℕ) (h : House) → ((k : ℕ) (who : Mover) → TheLane k who → Movers k who)
    → OffersMove Movers room next h → CollectsMove Movers room next h
collects_move Movers room next h own offers k lane at some = elim (some_holds lane) [
  | inl has ↦ offers k lane at has
  | inr none ↦ widen (TheLane k) (Movers k) room next h (own k) (collect_moves room next h k lane at some none)
]

has_some : (key : Key) (holds : List Hold) → HasHold key holds → holds ≢ []
has_some key holds has e = let none : HasHold key [] = subst (HasHold key) e has in cc

has_busy : (key : Key) (box : Box) → HasHold key (map hold_of (posts_of box)) → IsBusy box
has_busy key box has = elim (busy_posts box) [
  | inl busy ↦ busy
  | inr none ↦ absurd (has_some key _ has none)
]

-- who moves a message under the key
abbrev pub SealedMovers : (ℕ → Mover → Type 0) → House → Key → ℕ → Mover → Type 0
SealedMovers Movers h key weight who = ((weight ≡ 0) × (who ≡ AnyHolder key)) ⊎ ((1 ≤ weight) × IsHolder Movers h key who)

no_weight : (key : Key) (hold : Hold) → is_same_key hold.key key ≡ false → cond (is_same_key hold.key key) hold.weight 0 ≡ 0
no_weight key hold e = ap (λ t. cond t hold.weight 0) e

unfoldable pub reclaim_moves : (room : ℕ) (next : ℕ → ℕ) (h : House) (i : ℕ) (slot : Slot) (bytes its : List ℕ)
    → slice_get h.depot.slots i ≡ Some slot → slot.held ≡ Sealed bytes its 0
    → IsMovedBy (λ who. who ≡ AnyHolder (record { slot = i; generation = slot.generation })) room next h
reclaim_moves room next h i slot bytes its at e =
    let key : Key = record { slot = i; generation = slot.generation } in
    let happens = step.reclaim h key bytes its (under h i slot at ∙ e) in
    record { event = Reclaim i slot.generation; by = refl; goes_on = tt; in_order = tt; happens = happens }

sealed_by : (Movers : ℕ → Mover → Type 0) (room blocks : ℕ) (next : ℕ → ℕ) (h : House) → IsReached room blocks h → OffersMove Movers room next h
    → (i : ℕ) (slot : Slot) (bytes its : List ℕ) (weight : ℕ) → slice_get h.depot.slots i ≡ Some slot → slot.held ≡ Sealed bytes its weight
    → IsMovedBy (SealedMovers Movers h (record { slot = i; generation = slot.generation }) weight) room next h
sealed_by Movers room blocks next h f offers i slot bytes its zero at e =
    let key : Key = record { slot = i; generation = slot.generation } in
    let Q : Mover → Type 0 = SealedMovers Movers h key 0 in
    widen (λ who. who ≡ AnyHolder key) Q room next h (λ who by. inl (refl, by)) (reclaim_moves room next h i slot bytes its at e)
sealed_by Movers room blocks next h f offers i slot bytes its (suc weight) at e =
    let key : Key = record { slot = i; generation = slot.generation } in
    let Q : Mover → Type 0 = SealedMovers Movers h key (suc weight) in
    let some : 1 ≤ suc weight = omega arith in
    let heavy : weight_under h.depot key ≡ suc weight = ap weight_held (under h i slot at ∙ e) in
    let test : Hold → Bool = λ hold. is_same_key hold.key key in
    let g : Hold → ℕ = λ hold. cond (is_same_key hold.key key) hold.weight 0 in
    let lanes : Lane → List Hold = λ lane. lane.holds in
    let boxes : Box → List Hold = λ box. map hold_of (posts_of box) in
    elim (found_in lanes test g (no_weight key) h.lanes) [
      | inl there ↦ widen (Movers there.0) Q room next h (λ who by. inr (some, inl (there.0, there.1, there.2, there.3, by)))
          (offers there.0 there.1 there.2 (has_some key _ there.3))
      | inr no_lane ↦ elim (found_in boxes test g (no_weight key) h.boxes) [
        | inl there ↦ widen (TheWorker there.0) Q room next h (λ who by. inr (some, inr (there.0, there.1, there.2, there.3, by)))
            (busy_moves room blocks next h f there.0 there.1 there.2 (has_busy key there.1 there.3))
        | inr no_box ↦
            let sum : weight_of key (holds_of h) ≡ weight_under h.depot key = f.holds.sum key in
            let parts : weight_of key (holds_of h) ≡ sum_by g (flat_map lanes h.lanes) + sum_by g (flat_map boxes h.boxes) =
            sum_by-append g (flat_map lanes h.lanes) (flat_map boxes h.boxes) in
            absurd (omega arith)
      ]
    ]

-- an answer that isn't given
nth_of : (f : ℕ → Option Outcome) (a n p : ℕ) (y : Option Outcome) → slice_get (map f (range_with_len a n)) p ≡ Some y → f (a + p) ≡ y
nth_of f a zero p y e = cc
nth_of f a (suc n) zero y e = let z : a + 0 ≡ a = omega arith in let same : f a ≡ y = cc in ap f z ∙ same
nth_of f a (suc n) (suc p) y e = let z : a + suc p ≡ a + 1 + p = omega arith in ap f z ∙ nth_of f (a + 1) n p y e

pub none_found : (f : Slip → Bool) (slips : List Slip) → option_map (λ (slip : Slip). slip.outcome) (find f slips) ≡ None → count_by f slips ≡ 0
none_found f [] e = refl
none_found f (x ∷ slips) e = by (f x) refl e (none_found f slips)
  where
    by : (t : Bool) → f x ≡ t → option_map (λ (slip : Slip). slip.outcome) (cond t (Some x) (find f slips)) ≡ None
        → (option_map (λ (slip : Slip). slip.outcome) (find f slips) ≡ None → count_by f slips ≡ 0) → count_by f (x ∷ slips) ≡ 0
    by true is none rest = cc
    by false is none rest =
        let zero' : ◌≡◌ {A = ℕ} (cond (f x) 1 0) 0 = ap (λ b. cond b 1 0) is in
        let none' = rest none in omega (arith, count-cons f x slips)

pub given_there : (t : SealedMessage) (p : ℕ) → p < t.offered → is_given t.number p t ≡ true
given_there t p low = let under' : nat_lt p t.offered ≡ true = grind (arith, nat_tests) in rw (eq-eqb t.number t.number refl, under') refl

no_answer : (k : ℕ) (d : Depot) (lane : Lane) (boxes : List Box) (p : ℕ) → IsTracked k d lane boxes
    → lane.gather.places ≡ answers lane.gather.txn (length lane.gather.places) lane.heard
    → ((i : ℕ) (t : SealedMessage) → slice_get lane.messages i ≡ Some t → length lane.messages ≡ i + 1 → lane.gather.txn ≡ txn_of k t.number)
    → lane.holds ≡ [] → length lane.slips ≤ lane.collected
    → sum_by (λ (post : Post). cond (is_copy lane.gather.txn p post.note) 1 0) (flat_map on_way boxes) ≡ 0 → slice_get lane.gather.places p ≡ Some None
    → (ts : List SealedMessage) → lane.messages ≡ ts → ⊥
no_answer k d lane boxes p s answered for_last idle all none at [] e =
    let low = slice_get_within lane.gather.places p None at in
    let few = s.none (ap length e) in absurd (omega arith)
no_answer k d lane boxes p s answered for_last idle all none at (t ∷ ts) e =
    let z = last_there (t ∷ ts) 0 t refl in
    let is : slice_get lane.messages z.0 ≡ Some z.1 = ap (λ xs. slice_get xs z.0) e ∙ z.2 in
    let top : length lane.messages ≡ z.0 + 1 = ap length e ∙ z.3 in
    let low = slice_get_within lane.gather.places p None at in
    let whole = (s.last z.0 z.1 is top).all in
    let give : to_give lane.holds ≡ 0 = ap to_give idle in
    let given = s.given z.1.number p in
    let some = count_some (is_given z.1.number p) lane.messages z.0 z.1 is (given_there z.1 p (omega arith)) in
    let no_slips : times_named (txn_of k z.1.number) p (drop lane.collected lane.slips) ≡ 0 =
    ap (times_named (txn_of k z.1.number) p) (drop_all lane.collected lane.slips all) in
    let no_way : way_at k z.1.number p boxes ≡ 0 =
    subst (λ txn. sum_by (λ (post : Post). cond (is_copy txn p post.note) 1 0) (flat_map on_way boxes) ≡ 0) (for_last z.0 z.1 is top) none in
    let empty : answer lane.gather.txn lane.heard p ≡ None =
    ap (answer lane.gather.txn lane.heard) (let z : p ≡ 0 + p = omega arith in z)
    ∙ nth_of (answer lane.gather.txn lane.heard) 0 (length lane.gather.places) p None (ap (λ xs. slice_get xs p) (sym answered) ∙ at) in
    let its : answer (txn_of k z.1.number) lane.heard p ≡ None = subst (λ txn. answer txn lane.heard p ≡ None) (for_last z.0 z.1 is top) empty in
    let unheard = none_found (names (txn_of k z.1.number) p) lane.heard its in
    absurd (omega arith)

pub busy_way : (box : Box) → IsBusy box ⊎ (on_way box ≡ [])
busy_way box = elim (busy_or_free box) [
  | inl busy ↦ inl busy
  | inr free ↦ inr (rw (free.0, free.1) refl)
]

way_busy : (test : Post → Bool) (box : Box) → list_any test (on_way box) ≡ true → IsBusy box
way_busy test box has = elim (busy_way box) [
  | inl busy ↦ busy
  | inr none ↦ let bad : list_any test [] ≡ true = subst (λ (posts : List Post). list_any test posts ≡ true) none has in cc
]

no_one : (txn : Txn) (p : ℕ) (post : Post) → is_copy txn p post.note ≡ false → ◌≡◌ {A = ℕ} (cond (is_copy txn p post.note) 1 0) 0
no_one txn p post e = ap (λ t. cond t 1 0) e

-- who moves an answer that isn't given
abbrev AnswerMovers : (ℕ → Mover → Type 0) → House → ℕ → Lane → ℕ → Mover → Type 0
AnswerMovers Movers h k lane p who = (IsAtWork lane × Movers k who) ⊎ ((IsAtWork lane → ⊥) × HasCopyFor h lane p who)

none_at_work : (lane : Lane) → lane.holds ≡ [] → length lane.slips ≤ lane.collected → IsAtWork lane → ⊥
none_at_work lane idle all (inl some) = some idle
none_at_work lane idle all (inr low) = omega arith

unanswered_by : (Movers : ℕ → Mover → Type 0) (room blocks : ℕ) (next : ℕ → ℕ) (h : House) → IsReached room blocks h → OffersMove Movers room next h
    → CollectsMove Movers room next h
    → (k : ℕ) (lane : Lane) (p : ℕ) → LaneIs h k lane → slice_get lane.gather.places p ≡ Some None → IsMovedBy (AnswerMovers Movers h k lane p) room next h
unanswered_by Movers room blocks next h f offers collects k lane p at open' =
    let Q : Mover → Type 0 = AnswerMovers Movers h k lane p in
    let test : Post → Bool = λ post. is_copy lane.gather.txn p post.note in
    let g : Post → ℕ = λ post. cond (is_copy lane.gather.txn p post.note) 1 0 in
    elim (some_holds lane) [
      | inl some ↦ widen (Movers k) Q room next h (λ who by. inl (inl some, by)) (offers k lane at some)
      | inr idle ↦ elim (low_or_full lane.collected (length lane.slips)) [
        | inl low ↦ widen (Movers k) Q room next h (λ who by. inl (inr low, by)) (collects k lane at low)
        | inr all ↦ elim (found_in on_way test g (no_one lane.gather.txn p) h.boxes) [
          | inl there ↦ widen (TheWorker there.0) Q room next h (λ who by. inr (none_at_work lane idle all, (there.0, there.1, there.2, there.3, by)))
              (busy_moves room blocks next h f there.0 there.1 there.2 (way_busy test there.1 there.3))
          | inr none ↦ absurd (no_answer k h.depot lane h.boxes p (f.tracked k lane at) (f.answers k lane at) (λ i t is top. f.for_last k lane i t at is top)
              idle all none open' lane.messages refl)
        ]
      ]
    ]

pub nothing_is_stuck : NothingIsStuck
nothing_is_stuck room blocks start run is r o some capacity next all =
    let h = last_house start run in
    let f = reached room blocks start run is r o some in
    let c : 1 ≤ h.capacity = let e = capacity_run start run r in omega arith in
    let offers = offers_move room blocks next h f c all in
    let collects = collects_move (LaneOrWorker next h) room next h (λ k who by. inl by) offers in
    record {
      draft = draft_moves room blocks next h f;
      to_offer = offers;
      accepted = accepted_moves room blocks next h f;
      in_hand = hand_moves room blocks next h f;
      to_collect = collects;
      unanswered = unanswered_by (LaneOrWorker next h) room blocks next h f offers collects;
      sealed = sealed_by (LaneOrWorker next h) room blocks next h f offers;
    }

-- where all channels are closed
closed_weight : (room blocks : ℕ) (next : ℕ → ℕ) (h : House) → IsReached room blocks h → AreThere next h → AreClosed h → (k : ℕ) (lane : Lane) (hold : Hold)
    → LaneIs h k lane → slice_get lane.holds 0 ≡ Some hold → (n : ℕ) → hold.weight ≡ n → IsMovedBy (TheLane k) room next h
closed_weight room blocks next h f all shut k lane hold at there zero e = let some = f.kept.some k lane 0 hold at there in absurd (omega arith)
closed_weight room blocks next h f all shut k lane hold at there (suc zero) e =
    let b = all k lane at in back_moves room blocks next h f k lane hold b.0 at there e b.1 (shut (next k) b.0 b.1)
closed_weight room blocks next h f all shut k lane hold at there (suc (suc n)) e = split_moves room next h k 0 lane hold at there (omega arith)

pub nothing_is_stuck_when_closed : NothingIsStuckWhenClosed
nothing_is_stuck_when_closed room blocks start run is r o some next all shut =
    let h = last_house start run in
    let f = reached room blocks start run is r o some in
    let offers : OffersMove TheLane room next h = λ k lane at some'. let first = first_hold lane some' in
    closed_weight room blocks next h f all shut k lane first.0 at first.1 first.0.weight refl in
    let collects = collects_move TheLane room next h (λ k who by. by) offers in
    record {
      draft = draft_moves room blocks next h f;
      to_offer = offers;
      accepted = accepted_moves room blocks next h f;
      in_hand = hand_moves room blocks next h f;
      to_collect = collects;
      unanswered = unanswered_by TheLane room blocks next h f offers collects;
      sealed = sealed_by TheLane room blocks next h f offers;
    }
