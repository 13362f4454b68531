-- Steps of a lane that have no result.
use Rattle.std.proofs.Common.{◌≡◌, ◌≢◌, ℕ, suc, ◌+◌, ◌<◌, ◌≤◌, List, [], ◌∷◌, ◌++◌, length, Bool, true, false, cond, ◌==◌, Some, None, refl, ap, sym, ◌∙◌}
use Rattle.std.proofs.Common.{subst, arith, length-append}
use Rattle.std.specs.Prelude.{slice_get}
use Rattle.std.proofs.lemmas.Bool.{eqb-true, eq-eqb}
use Rattle.std.proofs.lemmas.Option.{slice_get_within}
use Rattle.mail_world.specs.declared.Note.{Note}
use Rattle.mail_world.specs.Depot.{Key, Held, Free, Slot, Depot, bytes_of, blocks_of, blocks_for, occurrences, HasRoom, Puts}
use Rattle.mail_world.specs.House.{House, Box, Lane, Hold, SealedMessage}
use Rattle.mail_world.specs.Events.{BeginStep, PutStep, CancelStep, SealStep, SplitStep, OfferStep, HandBackStep, CollectStep, BoxIs, LaneIs}
use Rattle.mail_world.proofs.GivenAway.{count-cons}
use Rattle.mail_world.proofs.WrongSteps.{same_some, not_both, none_some, same_lane, same_box}

draft_is : (h : House) (k : ℕ) (lane there : Lane) (key : Key) → LaneIs h k lane → LaneIs h k there → there.draft ≡ Some key → lane.draft ≡ Some key
draft_is h k lane there key is is' e = ap (λ (x : Lane). x.draft) (same_lane h k lane there is is') ∙ e

pub begin_with_draft : (h new : House) (k : ℕ) (lane : Lane) (key : Key) → LaneIs h k lane → lane.draft ≡ Some key → BeginStep h k new → ⊥
begin_with_draft h new k lane key is draft st =
    none_some st.lane.draft key st.no_draft (ap (λ (x : Lane). x.draft) (same_lane h k st.lane lane st.is is) ∙ draft)

pub begin_without_slot : (h new : House) (k : ℕ) → ((i : ℕ) (slot : Slot) → slice_get h.depot.slots i ≡ Some slot → slot.held ≢ Free) → BeginStep h k new → ⊥
begin_without_slot h new k none st = none st.key.slot (record { generation = st.key.generation; held = Free }) st.begins.0 refl

pub put_without_draft : (h new : House) (k : ℕ) (bytes : List ℕ) (lane : Lane) → LaneIs h k lane → lane.draft ≡ None → PutStep h k bytes new → ⊥
put_without_draft h new k bytes lane is none st = none_some lane.draft st.key none (draft_is h k lane st.lane st.key is st.is st.draft)

-- the list without the first of its elements that is x
abbrev without : ℕ → List ℕ → List ℕ
without x [] = []
without x (y ∷ ys) = cond (y == x) ys (y ∷ without x ys)

length_without : (x : ℕ) (ys : List ℕ) → 1 ≤ occurrences x ys → length (without x ys) + 1 ≡ length ys
length_without x [] some = absurd (omega arith)
length_without x (y ∷ ys) some = by (y == x) (omega (arith, count-cons (λ (z : ℕ). z == x) y ys)) (length_without x ys)
  where
    by : (t : Bool) → 1 ≤ cond t 1 0 + occurrences x ys → (1 ≤ occurrences x ys → length (without x ys) + 1 ≡ length ys)
        → length (cond t ys (y ∷ without x ys)) + 1 ≡ suc (length ys)
    by true one rest = omega arith
    by false one rest = let e = rest (omega arith) in omega arith

times_without : (x z : ℕ) (ys : List ℕ) → occurrences z ys ≤ occurrences z (without x ys) + cond (x == z) 1 0
times_without x z [] = omega arith
times_without x z (y ∷ ys) = by (y == x) refl (times_without x z ys)
  where
    by : (t : Bool) → (y == x) ≡ t → occurrences z ys ≤ occurrences z (without x ys) + cond (x == z) 1 0
        → occurrences z (y ∷ ys) ≤ occurrences z (cond t ys (y ∷ without x ys)) + cond (x == z) 1 0
    by true e rest =
        let same : ◌≡◌ {A = ℕ} (cond (y == z) 1 0) (cond (x == z) 1 0) = ap (λ (v : ℕ). cond (v == z) 1 0) (eqb-true y x e) in
        omega (arith, count-cons (λ (v : ℕ). v == z) y ys)
    by false e rest = omega (arith, count-cons (λ (v : ℕ). v == z) y ys, count-cons (λ (v : ℕ). v == z) y (without x ys))

-- a list whose elements stand as often in another is no longer than that
no_longer : (xs ys : List ℕ) → ((z : ℕ) → occurrences z xs ≤ occurrences z ys) → length xs ≤ length ys
no_longer [] ys all = omega arith
no_longer (x ∷ xs) ys all =
    let self : ◌≡◌ {A = ℕ} (cond (x == x) 1 0) 1 = own x in
    let some : 1 ≤ occurrences x ys = omega (arith, all x, count-cons (λ (v : ℕ). v == x) x xs) in
    let rest : length xs ≤ length (without x ys) =
    no_longer xs (without x ys) (λ z. omega (arith, all z, count-cons (λ (v : ℕ). v == z) x xs, times_without x z ys)) in
    omega (arith, length_without x ys some)
  where
    own : (n : ℕ) → ◌≡◌ {A = ℕ} (cond (n == n) 1 0) 1
    own n = ap (λ t. cond t 1 0) (eq-eqb n n refl)

-- a put has room
puts_room : (d : Depot) (key : Key) (more : List ℕ) (new : Depot) → Puts d key more new → HasRoom d key more
puts_room d key more new p =
    let few : length p.picked ≤ length d.free = no_longer p.picked d.free (λ z. omega (arith, p.taken z)) in
    let all : blocks_for (length (p.bytes ++ more)) ≤ length p.blocks + length d.free = omega (arith, p.enough, length-append p.blocks p.picked) in
    let P : Held → Type 0 = λ held. blocks_for (length (bytes_of held ++ more)) ≤ length (blocks_of held) + length d.free in
    subst P (sym p.draft) all

pub put_without_room : (h new : House) (k : ℕ) (bytes : List ℕ) (lane : Lane) (key : Key) → LaneIs h k lane → lane.draft ≡ Some key
    → (HasRoom h.depot key bytes → ⊥) → PutStep h k bytes new → ⊥
put_without_room h new k bytes lane key is draft full st =
    let same : key ≡ st.key = same_some lane.draft key st.key draft (draft_is h k lane st.lane st.key is st.is st.draft) in
    full (subst (λ (x : Key). HasRoom h.depot x bytes) (sym same) (puts_room h.depot st.key bytes st.depot st.puts))

pub cancel_without_draft : (h new : House) (k : ℕ) (lane : Lane) → LaneIs h k lane → lane.draft ≡ None → CancelStep h k new → ⊥
cancel_without_draft h new k lane is none st = none_some lane.draft st.key none (draft_is h k lane st.lane st.key is st.is st.draft)

pub seal_without_draft : (h new : House) (k n : ℕ) (lane : Lane) → LaneIs h k lane → lane.draft ≡ None → SealStep h k n new → ⊥
seal_without_draft h new k n lane is none st = none_some lane.draft st.key none (draft_is h k lane st.lane st.key is st.is st.draft)

pub seal_for_none : (h new : House) (k : ℕ) → SealStep h k 0 new → ⊥
seal_for_none h new k st = let bad : 1 ≤ 0 = st.some in absurd (omega arith)

pub split_of_one : (h new : House) (k i : ℕ) (lane : Lane) (hold : Hold) → LaneIs h k lane → slice_get lane.holds i ≡ Some hold → hold.weight ≤ 1
    → SplitStep h k i new → ⊥
split_of_one h new k i lane hold is at one st =
    let there : slice_get lane.holds i ≡ Some (record { key = st.key; weight = st.weight + 1 }) =
    ap (λ (x : Lane). slice_get x.holds i) (same_lane h k lane st.lane is st.is) ∙ st.hold in
    let same = same_some (slice_get lane.holds i) hold (record { key = st.key; weight = st.weight + 1 }) at there in
    let weight : hold.weight ≡ st.weight + 1 = ap (λ (x : Hold). x.weight) same in
    absurd (omega (arith, st.above))

pub split_of_nothing : (h new : House) (k i : ℕ) (lane : Lane) → LaneIs h k lane → slice_get lane.holds i ≡ None → SplitStep h k i new → ⊥
split_of_nothing h new k i lane is nothing st =
    none_some (slice_get lane.holds i) (record { key = st.key; weight = st.weight + 1 }) nothing
    (ap (λ (x : Lane). slice_get x.holds i) (same_lane h k lane st.lane is st.is) ∙ st.hold)

pub offer_without_hold : (h new : House) (k : ℕ) (note : Note) (lane : Lane) → LaneIs h k lane
    → ((i : ℕ) (hold : Hold) → slice_get lane.holds i ≡ Some hold → hold.weight ≢ 1) → OfferStep h k note new → ⊥
offer_without_hold h new k note lane is none st =
    none st.at (record { key = st.key; weight = 1 }) (ap (λ (x : Lane). slice_get x.holds st.at) (same_lane h k lane st.lane is st.is) ∙ st.copy.hold) refl

-- the transaction of an offer's note
offered_of : (h new : House) (k : ℕ) (note : Note) (lane : Lane) → LaneIs h k lane → (st : OfferStep h k note new)
    → slice_get lane.messages st.t ≡ Some (record { number = note.txn.number; key = st.key; message = note.message; offered = note.place })
offered_of h new k note lane is st = ap (λ (x : Lane). slice_get x.messages st.t) (same_lane h k lane st.lane is st.is) ∙ st.copy.is

pub offer_with_other_hold : (h new : House) (k : ℕ) (note : Note) (lane : Lane) → LaneIs h k lane
    → ((i t : ℕ) (hold : Hold) (x : SealedMessage) → slice_get lane.holds i ≡ Some hold → slice_get lane.messages t ≡ Some x → x.number ≡ note.txn.number
    → hold.key ≢ x.key) → OfferStep h k note new → ⊥
offer_with_other_hold h new k note lane is other st =
    other st.at st.t (record { key = st.key; weight = 1 }) _ (ap (λ (x : Lane). slice_get x.holds st.at) (same_lane h k lane st.lane is st.is) ∙ st.copy.hold)
    (offered_of h new k note lane is st) refl refl

pub offer_of_other_bytes : (h new : House) (k : ℕ) (note : Note) (lane : Lane) → LaneIs h k lane
    → ((t : ℕ) (x : SealedMessage) → slice_get lane.messages t ≡ Some x → x.number ≡ note.txn.number → x.message ≢ note.message) → OfferStep h k note new → ⊥
offer_of_other_bytes h new k note lane is none st = none st.t _ (offered_of h new k note lane is st) refl refl

pub offer_out_of_place : (h new : House) (k : ℕ) (note : Note) (lane : Lane) → LaneIs h k lane
    → ((t : ℕ) (x : SealedMessage) → slice_get lane.messages t ≡ Some x → x.number ≡ note.txn.number → x.offered ≢ note.place) → OfferStep h k note new → ⊥
offer_out_of_place h new k note lane is none st = none st.t _ (offered_of h new k note lane is st) refl refl

pub offer_for_other_lane : (h new : House) (k : ℕ) (note : Note) → note.txn.lane ≢ k → OfferStep h k note new → ⊥
offer_for_other_lane h new k note other st = other st.own

pub offer_when_closed : (h new : House) (k : ℕ) (note : Note) (box : Box) → BoxIs h note.mailbox box → box.closed ≡ true → OfferStep h k note new → ⊥
offer_when_closed h new k note box is closed st =
    not_both st.box.closed (ap (λ (x : Box). x.closed) (same_box h note.mailbox st.box box st.channel is) ∙ closed) st.still_open

pub offer_when_full : (h new : House) (k : ℕ) (note : Note) (box : Box) → BoxIs h note.mailbox box → box.taken + h.capacity ≤ length box.accepted
    → OfferStep h k note new → ⊥
offer_when_full h new k note box is full st =
    let same = same_box h note.mailbox st.box box st.channel is in
    let room : length box.accepted < box.taken + h.capacity = subst (λ (x : Box). length x.accepted < x.taken + h.capacity) same st.room in
    absurd (omega arith)

pub hand_back_without_hold : (h new : House) (k i b : ℕ) (lane : Lane) → LaneIs h k lane
    → ((hold : Hold) → slice_get lane.holds i ≡ Some hold → hold.weight ≢ 1) → HandBackStep h k i b new → ⊥
hand_back_without_hold h new k i b lane is none st =
    none (record { key = st.sealed.key; weight = 1 }) (ap (λ (x : Lane). slice_get x.holds i) (same_lane h k lane st.lane is st.is) ∙ st.copy.hold) refl

pub hand_back_with_other_hold : (h new : House) (k i b : ℕ) (lane : Lane) → LaneIs h k lane
    → ((t : ℕ) (hold : Hold) (x : SealedMessage) → slice_get lane.holds i ≡ Some hold → slice_get lane.messages t ≡ Some x → hold.key ≢ x.key)
    → HandBackStep h k i b new → ⊥
hand_back_with_other_hold h new k i b lane is other st =
    let same = same_lane h k lane st.lane is st.is in
    other st.t (record { key = st.sealed.key; weight = 1 }) st.sealed (ap (λ (x : Lane). slice_get x.holds i) same ∙ st.copy.hold)
    (ap (λ (x : Lane). slice_get x.messages st.t) same ∙ st.copy.is) refl

pub collect_of_none : (h new : House) (k : ℕ) (lane : Lane) → LaneIs h k lane → length lane.slips ≤ lane.collected → CollectStep h k new → ⊥
collect_of_none h new k lane is none st =
    let there = ap (λ (x : Lane). slice_get x.slips x.collected) (same_lane h k lane st.lane is st.is) ∙ st.oldest in
    absurd (omega (arith, slice_get_within lane.slips lane.collected st.slip there))
