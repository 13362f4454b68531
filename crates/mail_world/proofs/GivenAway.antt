-- How many copies a lane gave away of a transaction and a place: one at most, and as many as were heard of or are on their way.
use Rattle.std.proofs.Common.{◌≡◌, ◌≢◌, ℕ, zero, suc, ◌+◌, ◌≤◌, List, [], ◌∷◌, ◌++◌, drop, Bool, true, false, cond, ◌&&◌, ◌==◌, Some, refl, ap, sym, ◌∙◌, subst}
use Rattle.std.proofs.Common.{arith}
use Rattle.std.specs.Prelude.{slice_get, slice_set, count_by, nat_lt}
use Rattle.std.proofs.lemmas.Bool.{eqb-true}
use Rattle.std.proofs.lemmas.Bool.Decides.{nat_tests}
use Rattle.std.proofs.lemmas.List.Sums.{sum_by-append}
use Rattle.mail_world.specs.declared.Txn.{Txn}
use Rattle.mail_world.specs.declared.Note.{Note}
use Rattle.mail_world.specs.Slips.{names, own_slip}
use Rattle.mail_world.specs.Depot.{Key}
use Rattle.mail_world.specs.House.{SealedMessage, Lane, House}
use Rattle.mail_world.specs.Events.{LaneIs}
use Rattle.mail_world.proofs.PathsSpelled.{and_parts}
use Rattle.mail_world.proofs.OneLine.{other_byte}
use Rattle.mail_world.proofs.Once.{is_copy, IsOnce}

-- counting
pub count-append : {A : Type 0} (f : A → Bool) (xs ys : List A) → count_by f (xs ++ ys) ≡ count_by f xs + count_by f ys
count-append f xs ys = sum_by-append (λ x. cond (f x) 1 0) xs ys

pub count-cons : {A : Type 0} (f : A → Bool) (x : A) (xs : List A) → count_by f (x ∷ xs) ≡ cond (f x) 1 0 + count_by f xs
count-cons f x xs = omega (arith, count-append f (x ∷ []) xs)

pub count_one_more : {A : Type 0} (f : A → Bool) (n : ℕ) (xs : List A) (x : A) → count_by f (drop n (xs ++ x ∷ [])) ≤ count_by f (drop n xs) + cond (f x) 1 0
count_one_more f zero xs x = omega (arith, count-append f xs (x ∷ []))
count_one_more f (suc zero) [] x = omega arith
count_one_more f (suc (suc n)) [] x = omega arith
count_one_more f (suc n) (y ∷ xs) x = count_one_more f n xs x

count_set : {A : Type 0} (f : A → Bool) (xs : List A) (i : ℕ) (old new : A) → slice_get xs i ≡ Some old
    → count_by f (slice_set xs i new) + cond (f old) 1 0 ≡ count_by f xs + cond (f new) 1 0
count_set f [] i old new e = cc
count_set f (x ∷ xs) zero old new e =
    let same : x ≡ old = cc in
    let one : ◌≡◌ {A = ℕ} (cond (f x) 1 0) (cond (f old) 1 0) = ap (λ y. cond (f y) 1 0) same in
    omega (arith, one, count-cons f new xs, count-cons f x xs)
count_set f (x ∷ xs) (suc i) old new e = omega (arith, count_set f xs i old new e, count-cons f x (slice_set xs i new), count-cons f x xs)

none_by : (t : Bool) (n : ℕ) → (t ≡ true → ⊥) → n ≡ 0 → cond t 1 0 + n ≡ 0
none_by true n h e = absurd (h refl)
none_by false n h e = omega arith

count_none : {A : Type 0} (f : A → Bool) (xs : List A) → ((i : ℕ) (x : A) → slice_get xs i ≡ Some x → f x ≡ true → ⊥) → count_by f xs ≡ 0
count_none f [] h = refl
count_none f (x ∷ xs) h = count-cons f x xs ∙ none_by (f x) (count_by f xs) (h 0 x refl) (count_none f xs (λ i y at e. h (suc i) y at e))

one_more_by : (t : Bool) (n : ℕ) → (t ≡ true → n ≡ 0) → n ≤ 1 → cond t 1 0 + n ≤ 1
one_more_by true n h le = let none : n ≡ 0 = h refl in omega arith
one_more_by false n h le = omega arith

count_at_most_one : {A : Type 0} (f : A → Bool) (xs : List A)
    → ((i j : ℕ) (x y : A) → slice_get xs i ≡ Some x → slice_get xs j ≡ Some y → f x ≡ true → f y ≡ true → i ≡ j) → count_by f xs ≤ 1
count_at_most_one f [] h = omega arith
count_at_most_one f (x ∷ xs) h =
    let most = one_more_by (f x) (count_by f xs)
    (λ here. count_none f xs (λ i y at e. let bad : 0 ≡ suc i = h 0 (suc i) x y refl at here e in absurd (omega arith)))
    (count_at_most_one f xs (λ i j y z at here e e'. let same : suc i ≡ suc j = h (suc i) (suc j) y z at here e e' in omega arith)) in
    omega (arith, count-cons f x xs)

pub count_some : {A : Type 0} (f : A → Bool) (xs : List A) (i : ℕ) (x : A) → slice_get xs i ≡ Some x → f x ≡ true → 1 ≤ count_by f xs
count_some f [] i x at e = cc
count_some f (y ∷ xs) zero x at e =
    let same : y ≡ x = cc in
    let one : ◌≡◌ {A = ℕ} (cond (f y) 1 0) 1 = rw (same, e) refl in
    omega (arith, one, count-cons f y xs)
count_some f (y ∷ xs) (suc i) x at e = omega (arith, count_some f xs i x at e, count-cons f y xs)

-- the copy of the place was given away
abbrev pub is_given : ℕ → ℕ → SealedMessage → Bool
is_given number p t = (t.number == number) && nat_lt p t.offered

-- one more place
lt_more : (p n : ℕ) → ◌≡◌ {A = ℕ} (cond (nat_lt p (n + 1)) 1 0) (cond (nat_lt p n) 1 0 + cond (n == p) 1 0)
lt_more p n = grind (arith, nat_tests)

one_given : (key : Key) (number n p place : ℕ) (message : List ℕ)
    → cond (is_given n p (record { number = number; key = key; message = message; offered = place + 1 })) 1 0
    ≡ cond (is_given n p (record { number = number; key = key; message = message; offered = place })) 1 0 + cond ((number == n) && (place == p)) 1 0
one_given key number n p place message = by (number == n)
  where
    by : (t : Bool) → cond (t && nat_lt p (place + 1)) 1 0 ≡ cond (t && nat_lt p place) 1 0 + cond (t && (place == p)) 1 0
    by true = lt_more p place
    by false = refl

pub count_given : (ts : List SealedMessage) (t : ℕ) (key : Key) (number n p place : ℕ) (message : List ℕ)
    → slice_get ts t ≡ Some (record { number = number; key = key; message = message; offered = place })
    → count_by (is_given n p) (slice_set ts t (record { number = number; key = key; message = message; offered = place + 1 })) ≡ count_by (is_given n p) ts
    + cond ((number == n) && (place == p)) 1 0
count_given ts t key number n p place message at =
    omega (
      arith,
      one_given key number n p place message,
      count_set (is_given n p) ts t (record { number = number; key = key; message = message; offered = place })
          (record { number = number; key = key; message = message; offered = place + 1 }) at,
    )

-- a message that is sealed has no copy given away
none_before_zero : (p : ℕ) → nat_lt p 0 ≡ false
none_before_zero p = grind (arith, nat_tests)

pub count_sealed : (ts : List SealedMessage) (key : Key) (number n p : ℕ) (message : List ℕ)
    → count_by (is_given n p) (ts ++ record { number = number; key = key; message = message; offered = 0 } ∷ []) ≡ count_by (is_given n p) ts
count_sealed ts key number n p message =
    let none : ◌≡◌ {A = ℕ} (cond (is_given n p (record { number = number; key = key; message = message; offered = 0 })) 1 0) 0 = by (number == n) in
    omega (arith, count-append (is_given n p) ts (record { number = number; key = key; message = message; offered = 0 } ∷ []))
  where
    by : (t : Bool) → ◌≡◌ {A = ℕ} (cond (t && nat_lt p 0) 1 0) 0
    by true = rw (none_before_zero p) refl
    by false = refl

-- a lane knows of copies of its own transactions alone; those it was told of and those on their way are no more than it gave away
abbrev pub AreGiven : ℕ → Txn → ℕ → ℕ → ℕ → List SealedMessage → Type 0
AreGiven k txn p told way ts = told + cond (k == txn.lane) way 0 ≤ cond (k == txn.lane) (count_by (is_given txn.number p) ts) 0

pub given_fewer : (k : ℕ) (txn : Txn) (p told way way' : ℕ) (ts : List SealedMessage) → way' ≤ way → AreGiven k txn p told way ts
    → AreGiven k txn p told way' ts
given_fewer k txn p told way way' ts le h = by (k == txn.lane) h
  where
    by : (t : Bool) → told + cond t way 0 ≤ cond t (count_by (is_given txn.number p) ts) 0
        → told + cond t way' 0 ≤ cond t (count_by (is_given txn.number p) ts) 0
    by true b = omega arith
    by false b = omega arith

pub given_none : (k : ℕ) (txn : Txn) (p : ℕ) → AreGiven k txn p 0 0 []
given_none k txn p = by (k == txn.lane)
  where
    by : (t : Bool) → 0 + cond t 0 0 ≤ cond t 0 0
    by true = omega arith
    by false = omega arith

-- a message is sealed
pub given_seal : (k : ℕ) (txn : Txn) (p told way : ℕ) (ts : List SealedMessage) (key : Key) (number : ℕ) (message : List ℕ)
    → AreGiven k txn p told way ts → AreGiven k txn p told way (ts ++ record { number = number; key = key; message = message; offered = 0 } ∷ [])
given_seal k txn p told way ts key number message h = rw (count_sealed ts key number txn.number p message) h

-- a copy is handed back, and the lane's own slip tells of it
back_by : (t u v : Bool) (told told' way old new : ℕ) → told' ≡ told + cond (t && u && v) 1 0 → new ≡ old + cond (u && v) 1 0
    → told + cond t way 0 ≤ cond t old 0 → told' + cond t way 0 ≤ cond t new 0
back_by true u v told told' way old new a b h = omega arith
back_by false u v told told' way old new a b h = omega arith

pub given_back : (k : ℕ) (txn : Txn) (p told told' way : ℕ) (ts : List SealedMessage) (t : ℕ) (key : Key) (number place m : ℕ) (message : List ℕ)
    → slice_get ts t ≡ Some (record { number = number; key = key; message = message; offered = place })
    → told' ≡ told + cond (names txn p (own_slip k number place m)) 1 0
    → AreGiven k txn p told way ts → AreGiven k txn p told' way (slice_set ts t (record { number = number; key = key; message = message; offered = place + 1 }))
given_back k txn p told told' way ts t key number place m message at more h =
    back_by (k == txn.lane) (number == txn.number) (place == p) told told' way _ _ more (count_given ts t key number txn.number p place message at) h

-- a copy is offered
offer_by : (t u v : Bool) (told way way' old new : ℕ) → way' ≤ way + cond (t && u && v) 1 0 → new ≡ old + cond (u && v) 1 0 → told + cond t way 0 ≤ cond t old 0
    → told + cond t way' 0 ≤ cond t new 0
offer_by true u v told way way' old new a b h = omega arith
offer_by false u v told way way' old new a b h = omega arith

pub given_offer : (k : ℕ) (txn : Txn) (p told way way' : ℕ) (ts : List SealedMessage) (t : ℕ) (key : Key) (note : Note) → note.txn.lane ≡ k
    → slice_get ts t ≡ Some (record { number = note.txn.number; key = key; message = note.message; offered = note.place })
    → way' ≤ way + cond (is_copy txn p note) 1 0
    → AreGiven k txn p told way ts
    → AreGiven k txn p told way' (slice_set ts t (record { number = note.txn.number; key = key; message = note.message; offered = note.place + 1 }))
given_offer k txn p told way way' ts t key note own at more h =
    let P : ℕ → Type 0 = λ n. way' ≤ way + cond ((n == txn.lane) && (note.txn.number == txn.number) && (note.place == p)) 1 0 in
    offer_by (k == txn.lane) (note.txn.number == txn.number) (note.place == p) told way way' _ _ (subst P own more)
    (count_given ts t key note.txn.number txn.number p note.place note.message at) h

elsewhere_by : (t w : Bool) (told way way' old : ℕ) → (t ≡ true → w ≡ false) → way' ≤ way + cond w 1 0 → told + cond t way 0 ≤ cond t old 0
    → told + cond t way' 0 ≤ cond t old 0
elsewhere_by true true told way way' old f a h = let bad : true ≡ false = f refl in cc
elsewhere_by true false told way way' old f a h = omega arith
elsewhere_by false w told way way' old f a h = omega arith

pub given_elsewhere : (k v : ℕ) (txn : Txn) (p told way way' : ℕ) (ts : List SealedMessage) (note : Note) → note.txn.lane ≡ k → v ≢ k
    → way' ≤ way + cond (is_copy txn p note) 1 0 → AreGiven v txn p told way ts → AreGiven v txn p told way' ts
given_elsewhere k v txn p told way way' ts note own ne more h =
    elsewhere_by (v == txn.lane) (is_copy txn p note) told way way' _
    (λ e. rw (other_byte note.txn.lane txn.lane (λ same. ne (eqb-true v txn.lane e ∙ sym same ∙ own))) refl) more h

-- no copy is given away twice
pub given_once : (k : ℕ) (h : House) (lane : Lane) → LaneIs h k lane → IsOnce h → (number p : ℕ) → count_by (is_given number p) lane.messages ≤ 1
given_once k h lane is o number p = count_at_most_one (is_given number p) lane.messages
    (λ i j t u at here e e'. o.distinct k lane i j t u is at here
    (eqb-true t.number number (and_parts (t.number == number) (nat_lt p t.offered) e).0
    ∙ sym (eqb-true u.number number (and_parts (u.number == number) (nat_lt p u.offered) e').0)))
