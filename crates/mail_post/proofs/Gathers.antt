-- The fields of a gatherer follow the definitions' gatherer.
use Rattle.std.proofs.Common.{◌≡◌, ◌≢◌, ◌↔◌, inl, inr, ℕ, zero, suc, ◌+◌, ◌<◌, ◌≤◌, List, [], ◌∷◌, ◌++◌, length, take, set, get_or, map, replicate, Bool, true}
use Rattle.std.proofs.Common.{false, not, cond, if◌then◌else◌, Option, Some, None, IsSome, refl, ap, ap₂, sym, subst, ◌∙◌, arith, All, length-set}
use Rattle.std.specs.Prelude.{slice_get, count_by, IsSomeAnd, IsTrue, nat_le, ◌==◌}
use Rattle.std.proofs.Math.Seq.{take-set-lt}
use Rattle.std.proofs.lemmas.Bool.{eq-eqb, eqb-true, leb-true, leb-false, not-false, and_parts}
use Rattle.std.proofs.lemmas.List.{length-take-le, take-replicate, length-replicate, get_or-take}
use Rattle.std.proofs.lemmas.List.FromFn.{length-map-range_with_len}
use Rattle.std.proofs.lemmas.List.Sums.{sum_by-cons, sum_by-set}
use Rattle.std.proofs.lemmas.Option.{slice_get_past}
use Rattle.mail_world.specs.declared.Outcome.{Outcome}
use Rattle.mail_world.specs.declared.Txn.{Txn}
use Rattle.mail_world.specs.declared.Slip.{Slip}
use Rattle.mail_world.specs.Slips.{answer, answers, Gather, place_outcome, is_same_txn, gathered, gather_for}
use Rattle.mail_world.proofs.Answered.{gathered-answers, answers-none, NoneNamed}
use Rattle.mail_world.proofs.LastSeal.{length_placed}
use Rattle.mail_post.specs.Gathering.{Gathering, IsDone, IsStranger, IsOwn, IsDouble, IsAwaited, NoneNames, HasGathered}
use Rattle.mail_post.specs.Places.{places_of, gathering_of, IsGather}
use Rattle.mail_post.specs.declared.gather.Gather.TheInside.{Inside}

-- two transactions are the same exactly where the test says so
same_txn : (a b : Txn) → is_same_txn a b ≡ true → a ≡ b
same_txn a b e =
    let parts = and_parts (a.lane == b.lane) (a.number == b.number) e in
    ap₂ (λ (lane number : ℕ). let t : Txn = record { lane = lane; number = number } in t) (eqb-true a.lane b.lane parts.0) (eqb-true a.number b.number parts.1)

is_same : (a b : Txn) → a ≡ b → is_same_txn a b ≡ true
is_same a b e = subst (λ (x : Txn). is_same_txn a x ≡ true) e (rw (eq-eqb a.lane a.lane refl, eq-eqb a.number a.number refl) refl)

other_by : (a b : Txn) (t : Bool) → is_same_txn a b ≡ t → a ≢ b → t ≡ false
other_by a b true e other = absurd (other (same_txn a b e))
other_by a b false e other = refl

other_txn : (a b : Txn) → a ≢ b → is_same_txn a b ≡ false
other_txn a b other = other_by a b (is_same_txn a b) refl other

-- the places of two lists: whether each was heard, and its outcome
length-places : (hs : List Bool) (os : List Outcome) → length hs ≤ length os → length (places_of hs os) ≡ length hs
length-places [] os within = refl
length-places (h ∷ hs) [] within = absurd (omega arith)
length-places (h ∷ hs) (o ∷ os) within = ap (λ n. suc n) (length-places hs os (omega arith))

slice_get-places : (hs : List Bool) (os : List Outcome) (p : ℕ) (h : Bool) (o : Outcome) → p < length hs → length hs ≤ length os
    → slice_get (places_of hs os) p ≡ Some (if get_or hs p h then Some (get_or os p o) else None)
slice_get-places [] os p h o low within = absurd (omega arith)
slice_get-places (x ∷ hs) [] p h o low within = absurd (omega arith)
slice_get-places (x ∷ hs) (y ∷ os) zero h o low within = refl
slice_get-places (x ∷ hs) (y ∷ os) (suc p) h o low within = slice_get-places hs os p h o (omega arith) (omega arith)

places-set : (hs : List Bool) (os : List Outcome) (p : ℕ) (o : Outcome) → p < length hs → length hs ≤ length os
    → places_of (set hs p true) (set os p o) ≡ set (places_of hs os) p (Some o)
places-set [] os p o low within = absurd (omega arith)
places-set (x ∷ hs) [] p o low within = absurd (omega arith)
places-set (x ∷ hs) (y ∷ os) zero o low within = refl
places-set (x ∷ hs) (y ∷ os) (suc p) o low within = ap (λ ps. (if x then Some y else None) ∷ ps) (places-set hs os p o (omega arith) (omega arith))

places-none : (n : ℕ) (os : List Outcome) → n ≤ length os → places_of (replicate n false) os ≡ replicate n None
places-none zero os within = refl
places-none (suc n) [] within = absurd (omega arith)
places-none (suc n) (o ∷ os) within = ap (λ ps. None ∷ ps) (places-none n os (omega arith))

-- how many places are missing
abbrev missing_of : List Bool → ℕ
missing_of hs = count_by (λ heard. not heard) hs

missing-cons : (h : Bool) (hs : List Bool) → missing_of (h ∷ hs) ≡ cond (not h) 1 0 + missing_of hs
missing-cons h hs = sum_by-cons (λ (heard : Bool). cond (not heard) 1 0) h hs

missing-set : (hs : List Bool) (p : ℕ) (d : Bool) → p < length hs → get_or hs p d ≡ false → missing_of (set hs p true) + 1 ≡ missing_of hs
missing-set hs p d low e =
    let counted = sum_by-set (λ (heard : Bool). cond (not heard) 1 0) hs p true d low in
    let open_there : ◌≡◌ {A = ℕ} (cond (not (get_or hs p d)) 1 0) 1 = rw e refl in
    omega (arith, counted)

missing-replicate : (n : ℕ) → missing_of (replicate n false) ≡ n
missing-replicate zero = refl
missing-replicate (suc n) = missing-cons false (replicate n false) ∙ ap (λ m. 1 + m) (missing-replicate n) ∙ omega arith

-- none is missing exactly where each place has its outcome
All-cons : (x : Option Outcome) (xs : List (Option Outcome)) → IsSome x → All IsSome xs → All IsSome (x ∷ xs)
All-cons x xs first rest zero d low = first
All-cons x xs first rest (suc k) d low = rest k d (omega arith)

none_missing : (hs : List Bool) (os : List Outcome) → length hs ≤ length os → missing_of hs ≡ 0 → All IsSome (places_of hs os)
none_missing [] os within e = λ k d low. absurd (omega arith)
none_missing (h ∷ hs) [] within e = absurd (omega arith)
none_missing (true ∷ hs) (o ∷ os) within e =
    let rest : missing_of hs ≡ 0 = omega (arith, missing-cons true hs, e) in
    All-cons (Some o) (places_of hs os) refl (none_missing hs os (omega arith) rest)
none_missing (false ∷ hs) (o ∷ os) within e = absurd (omega (arith, missing-cons false hs, e))

all_heard : (hs : List Bool) (os : List Outcome) → length hs ≤ length os → All IsSome (places_of hs os) → missing_of hs ≡ 0
all_heard [] os within each = refl
all_heard (h ∷ hs) [] within each = absurd (omega arith)
all_heard (true ∷ hs) (o ∷ os) within each =
    missing-cons true hs ∙ ap (λ n. 0 + n) (all_heard hs os (omega arith) (λ k d low. each (suc k) d (omega arith)))
all_heard (false ∷ hs) (o ∷ os) within each = let bad : false ≡ true = each 0 None (omega arith) in cc

-- then the outcomes are those of the places
outcomes-places : (hs : List Bool) (os : List Outcome) → length hs ≤ length os → missing_of hs ≡ 0 → map (λ o. Some o) (take (length hs) os) ≡ places_of hs os
outcomes-places [] os within e = refl
outcomes-places (h ∷ hs) [] within e = absurd (omega arith)
outcomes-places (true ∷ hs) (o ∷ os) within e =
    ap (λ ps. Some o ∷ ps) (outcomes-places hs os (omega arith) (omega (arith, missing-cons true hs, e)))
outcomes-places (false ∷ hs) (o ∷ os) within e = absurd (omega (arith, missing-cons false hs, e))

-- how the definitions' gatherer takes a slip, by what stands at its place and whether the transaction is the same
abbrev by_txn : Gather → Slip → Option (Option Outcome) → Bool → Gather
by_txn g slip at t = cond t (record { txn = g.txn; places = place_outcome g.places slip.place slip.outcome at }) g

stays : (g : Gather) (slip : Slip) (t : Bool) → by_txn g slip None t ≡ g
stays g slip true = refl
stays g slip false = refl

stays_heard : (g : Gather) (slip : Slip) (o : Outcome) (t : Bool) → by_txn g slip (Some (Some o)) t ≡ g
stays_heard g slip o true = refl
stays_heard g slip o false = refl

pub gathered-stranger : (g : Gather) (slip : Slip) → IsStranger g slip → gathered g slip ≡ g
gathered-stranger g slip (inl other) = rw (other_txn slip.txn g.txn other) refl
gathered-stranger g slip (inr past) = rw (slice_get_past g.places slip.place past) (stays g slip (is_same_txn slip.txn g.txn))

double_by : (g : Gather) (slip : Slip) (at : Option (Option Outcome)) → slice_get g.places slip.place ≡ at → IsSomeAnd at IsSome → gathered g slip ≡ g
double_by g slip None e h = absurd h
double_by g slip (Some None) e h = let bad : false ≡ true = h in cc
double_by g slip (Some (Some o)) e h = rw e (stays_heard g slip o (is_same_txn slip.txn g.txn))

pub gathered-double : (g : Gather) (slip : Slip) → IsDouble g slip → gathered g slip ≡ g
gathered-double g slip h = double_by g slip (slice_get g.places slip.place) refl h.1

gathered-awaited : (g : Gather) (slip : Slip) → IsAwaited g slip
    → gathered g slip ≡ record { txn = g.txn; places = set g.places slip.place (Some slip.outcome) }
gathered-awaited g slip h = rw (is_same slip.txn g.txn h.0, h.1) refl

-- a gatherer keeps its transaction and the number of its places
keeps_txn : (g : Gather) (slip : Slip) (at : Option (Option Outcome)) (t : Bool) → (by_txn g slip at t).txn ≡ g.txn
keeps_txn g slip at true = refl
keeps_txn g slip at false = refl

keeps_length : (g : Gather) (slip : Slip) (at : Option (Option Outcome)) (t : Bool) → length (by_txn g slip at t).places ≡ length g.places
keeps_length g slip at true = length_placed g.places slip.place slip.outcome at
keeps_length g slip at false = refl

-- one more slip was heard
pub heard_more : (g : Gather) (slip : Slip) (txn : Txn) (n : ℕ) (heard : List Slip) → HasGathered txn n heard g
    → HasGathered txn n (heard ++ slip ∷ []) (gathered g slip)
heard_more g slip txn n heard h =
    let at = slice_get g.places slip.place in
    let t = is_same_txn slip.txn g.txn in
    let count : length g.places ≡ n = ap length h.places ∙ length-map-range_with_len (answer txn heard) 0 n in
    let before : g.places ≡ answers g.txn (length g.places) heard = rw (h.same, count) h.places in
    let kept : (gathered g slip).txn ≡ txn = keeps_txn g slip at t ∙ h.same in
    let room : length (gathered g slip).places ≡ n = keeps_length g slip at t ∙ count in
    record {
      same = kept;
      places = gathered-answers g heard slip before
          ∙ ap₂ (λ (x : Txn) (m : ℕ). answers x m (heard ++ slip ∷ [])) kept room;
    }

-- none was heard of a transaction that begins
none_named : (txn : Txn) (slips : List Slip) → NoneNames txn slips → NoneNamed txn slips
none_named txn [] h = tt
none_named txn (s ∷ slips) h = (other_txn s.txn txn h.0, none_named txn slips h.1)

pub heard_none : (txn : Txn) (n : ℕ) (heard : List Slip) → NoneNames txn heard → HasGathered txn n heard (gather_for txn n)
heard_none txn n heard h = record {
  same = refl;
  places = answers-none txn heard n (none_named txn heard h) ∙ ap (λ m. answers txn m heard) (length-replicate n None);
}

-- the fields that keep the invariant
length-heard : (a : Inside) → IsGather a → length (take a.places a.heard.items) ≡ a.places
length-heard a h = length-take-le a.places a.heard.items h.within

heard-within : (a : Inside) → IsGather a → length (take a.places a.heard.items) ≤ length a.outcomes.items
heard-within a h = omega (arith, length-heard a h, h.room, h.within)

length-gathering : (a : Inside) → IsGather a → length (gathering_of a).gather.places ≡ a.places
length-gathering a h = length-places (take a.places a.heard.items) a.outcomes.items (heard-within a h) ∙ length-heard a h

pub is_done : (a : Inside) → IsGather a → IsTrue (a.missing == 0) ↔ IsDone (gathering_of a).gather
is_done a h = (
  λ e. none_missing (take a.places a.heard.items) a.outcomes.items (heard-within a h) (sym h.counted ∙ eqb-true a.missing 0 e),
  λ each. eq-eqb a.missing 0 (h.counted ∙ all_heard (take a.places a.heard.items) a.outcomes.items (heard-within a h) each),
)

pub answers-places : (a : Inside) → IsGather a → IsDone (gathering_of a).gather
    → map (λ o. Some o) (take a.places a.outcomes.items) ≡ (gathering_of a).gather.places
answers-places a h each =
    let hs = take a.places a.heard.items in
    ap (λ n. map (λ o. Some o) (take n a.outcomes.items)) (sym (length-heard a h))
    ∙ outcomes-places hs a.outcomes.items (heard-within a h) (all_heard hs a.outcomes.items (heard-within a h) each)

pub strangers : (a : Inside) (slip : Slip) → IsGather a → IsTrue (nat_le a.places slip.place) → IsStranger (gathering_of a).gather slip
strangers a slip h past = inr (omega (arith, leb-true a.places slip.place past, length-gathering a h))

pub owns : (a : Inside) (slip : Slip) → IsGather a → false ≡ not (is_same_txn slip.txn a.txn) → nat_le a.places slip.place ≡ false
    → IsOwn (gathering_of a).gather slip
owns a slip h same low = (
  same_txn slip.txn a.txn (not-false (is_same_txn slip.txn a.txn) (sym same)),
  omega (arith, leb-false a.places slip.place low, length-gathering a h),
)

pub own-stranger : (g : Gather) (slip : Slip) → IsOwn g slip → IsStranger g slip → ⊥
own-stranger g slip own (inl other) = other own.0
own-stranger g slip own (inr past) = let low : slip.place < length g.places = own.1 in omega arith

-- a slip for one of the places
pub place-within : (a : Inside) (v : Gathering) (slip : Slip) → gathering_of a ≡ v → IsGather a → IsOwn v.gather slip → slip.place < a.places
place-within a v slip e h own = omega (arith, own.1, ap (λ (w : Gathering). length w.gather.places) e, length-gathering a h)

slice_get-gathering : (a : Inside) (p : ℕ) (d : Bool) (o : Outcome) → IsGather a → p < a.places
    → slice_get (gathering_of a).gather.places p ≡ Some (if get_or a.heard.items p d then Some (get_or a.outcomes.items p o) else None)
slice_get-gathering a p d o h low =
    slice_get-places (take a.places a.heard.items) a.outcomes.items p d o (omega (arith, length-heard a h)) (heard-within a h)
    ∙ ap (λ (b : Bool). Some (if b then Some (get_or a.outcomes.items p o) else None)) (get_or-take a.places a.heard.items p d low)

pub finds_double : (a : Inside) (v : Gathering) (slip : Slip) (d : Bool) → gathering_of a ≡ v → IsGather a → IsOwn v.gather slip
    → get_or a.heard.items slip.place d ≡ true → IsDouble v.gather slip
finds_double a v slip d e h own heard =
    let o : Outcome = slip.outcome in
    let there : slice_get v.gather.places slip.place ≡ Some (Some (get_or a.outcomes.items slip.place o)) =
    ap (λ (w : Gathering). slice_get w.gather.places slip.place) (sym e)
    ∙ slice_get-gathering a slip.place d o h (place-within a v slip e h own)
    ∙ ap (λ (b : Bool). Some (if b then Some (get_or a.outcomes.items slip.place o) else None)) heard in
    (own.0, rw there refl)

pub finds_open : (a : Inside) (v : Gathering) (slip : Slip) (d : Bool) → gathering_of a ≡ v → IsGather a → IsOwn v.gather slip
    → get_or a.heard.items slip.place d ≡ false → IsAwaited v.gather slip
finds_open a v slip d e h own heard =
    let o : Outcome = slip.outcome in (
      own.0,
      ap (λ (w : Gathering). slice_get w.gather.places slip.place) (sym e)
          ∙ slice_get-gathering a slip.place d o h (place-within a v slip e h own)
          ∙ ap (λ (b : Bool). Some (if b then Some (get_or a.outcomes.items slip.place o) else None)) heard,
    )

-- no place has its outcome and is open
not_both : (at : Option (Option Outcome)) → IsSomeAnd at IsSome → at ≡ Some None → ⊥
not_both at some none = let bad : false ≡ true = subst (λ (x : Option (Option Outcome)). IsSomeAnd x IsSome) none some in cc

pub double-awaited : (g : Gather) (slip : Slip) → IsDouble g slip → IsAwaited g slip → ⊥
double-awaited g slip double awaited = not_both (slice_get g.places slip.place) double.1 awaited.1

-- the slip that is taken
taken : (a : Inside) (v : Gathering) (slip : Slip) → gathering_of a ≡ v → IsGather a → slip.place < a.places → IsAwaited v.gather slip
    → places_of (take a.places (set a.heard.items slip.place true)) (set a.outcomes.items slip.place slip.outcome) ≡ (gathered v.gather slip).places
taken a v slip e h low awaited =
    let p = slip.place in
    ap (λ hs. places_of hs (set a.outcomes.items p slip.outcome)) (take-set-lt a.places a.heard.items p true low)
    ∙ places-set (take a.places a.heard.items) a.outcomes.items p slip.outcome (omega (arith, length-heard a h)) (heard-within a h)
    ∙ ap (λ (w : Gathering). set w.gather.places p (Some slip.outcome)) e
    ∙ sym (ap (λ (g : Gather). g.places) (gathered-awaited v.gather slip awaited))

pub taken-view : (a : Inside) (v : Gathering) (slip : Slip) → gathering_of a ≡ v → IsGather a → slip.place < a.places → IsAwaited v.gather slip
    → let hs = set a.heard.items slip.place true in
    let new : Gathering = record {
      gather = record { txn = a.txn; places = places_of (take a.places hs) (set a.outcomes.items slip.place slip.outcome) };
      limit = length hs;
    } in
    new ≡ record { gather = gathered v.gather slip; limit = v.limit }
taken-view a v slip e h low awaited =
    let txn : a.txn ≡ (gathered v.gather slip).txn =
    ap (λ (w : Gathering). w.gather.txn) e ∙ sym (ap (λ (g : Gather). g.txn) (gathered-awaited v.gather slip awaited)) in
    let limit : length (set a.heard.items slip.place true) ≡ v.limit = length-set a.heard.items slip.place true ∙ ap (λ (w : Gathering). w.limit) e in
    ap₂ (λ (g : Gather) (n : ℕ). let w : Gathering = record { gather = g; limit = n } in w)
    (ap₂ (λ (t : Txn) (ps : List (Option Outcome)). let g : Gather = record { txn = t; places = ps } in g) txn (taken a v slip e h low awaited))
    limit

pub counted_down : (a : Inside) (p : ℕ) (d : Bool) → IsGather a → p < a.places → get_or a.heard.items p d ≡ false
    → missing_of (take a.places (set a.heard.items p true)) + 1 ≡ a.missing
counted_down a p d h low open_there =
    ap (λ hs. missing_of hs + 1) (take-set-lt a.places a.heard.items p true low)
    ∙ missing-set (take a.places a.heard.items) p d (omega (arith, length-heard a h)) (get_or-take a.places a.heard.items p d low ∙ open_there)
    ∙ sym h.counted

-- the fields of a gatherer that begins
pub all_open : (m n : ℕ) (hs : List Bool) → hs ≡ replicate m false → length hs ≡ n → hs ≡ replicate n false
all_open m n hs e room = e ∙ ap (λ k. replicate k false) (sym (length-replicate m false) ∙ sym (ap length e) ∙ room)

pub begun-missing : (n m : ℕ) (hs : List Bool) → hs ≡ replicate m false → n ≤ m → n ≡ missing_of (take n hs)
begun-missing n m hs e low = sym (ap (λ xs. missing_of (take n xs)) e ∙ ap (λ xs. missing_of xs) (take-replicate n m false low) ∙ missing-replicate n)

pub begun-places : (n m : ℕ) (hs : List Bool) (os : List Outcome) → hs ≡ replicate m false → n ≤ m → m ≡ length os → places_of (take n hs) os ≡ replicate n None
begun-places n m hs os e low room =
    ap (λ xs. places_of (take n xs) os) e ∙ ap (λ xs. places_of xs os) (take-replicate n m false low) ∙ places-none n os (omega arith)
