-- Parts of lists.
use Rattle.std.proofs.Common.{◌≡◌, ◌≢◌, ℕ, zero, suc, ◌≤◌, List, [], ◌∷◌, Bool, true, false, ◌==◌, refl, ap, sym, ◌∙◌, arith}
use Rattle.std.specs.Prelude.{filter, sum_by, slice_get, slice_set, Some}
use Rattle.std.proofs.Common.{inl, inr}
use Rattle.mail_world.proofs.Accepted.{get_set}
use Rattle.std.proofs.lemmas.Bool.{eq-eqb, eqb-true}
use Rattle.std.proofs.lemmas.List.Sums.{sum_by-cons}
use Rattle.std.proofs.Common.{subst}

-- an element that passes the test, and one that doesn't
pub passes : {A : Type 0} (f : A → Bool) (x : A) (xs : List A) → f x ≡ true → filter f (x ∷ xs) ≡ x ∷ filter f xs
passes f x xs e = rw e refl

pub fails : {A : Type 0} (f : A → Bool) (x : A) (xs : List A) → f x ≡ false → filter f (x ∷ xs) ≡ filter f xs
fails f x xs e = rw e refl

-- a number is itself, and no other
pub same_number : (n m : ℕ) → n ≡ m → (n == m) ≡ true
same_number n m e = eq-eqb n m e

other_if : (n m : ℕ) (t : Bool) → (n == m) ≡ t → n ≢ m → t ≡ false
other_if n m true e differ = absurd (differ (eqb-true n m e))
other_if n m false e differ = refl

pub other_number : (n m : ℕ) → n ≢ m → (n == m) ≡ false
other_number n m differ = other_if n m (n == m) refl differ ∙ refl

-- what holds of each element of a list after one of them was set
pub each_set : {A : Type 0} (P : ℕ → A → Type 0) (xs : List A) (k : ℕ) (x : A) → ((j : ℕ) (y : A) → j ≢ k → slice_get xs j ≡ Some y → P j y) → P k x
    → (j : ℕ) (y : A) → slice_get (slice_set xs k x) j ≡ Some y → P j y
each_set P xs k x others here j y is = elim (get_set xs k j x y is) [
  | inl at ↦ let there : P k y = subst (P k) at.1 here in subst (λ i. P i y) (sym at.0) there
  | inr other ↦ others j y other.0 other.1
]

pub set_twice : {A : Type 0} (xs : List A) (k : ℕ) (x y : A) → slice_set (slice_set xs k x) k y ≡ slice_set xs k y
set_twice [] k x y = refl
set_twice (z ∷ xs) zero x y = refl
set_twice (z ∷ xs) (suc k) x y = ap (λ l. z ∷ l) (set_twice xs k x y)

-- lists that begin alike
pub same_first : {A : Type 0} (x y : A) (xs ys : List A) → x ∷ xs ≡ y ∷ ys → x ≡ y
same_first x y xs ys e = cc

pub same_rest : {A : Type 0} (x y : A) (xs ys : List A) → x ∷ xs ≡ y ∷ ys → xs ≡ ys
same_rest x y xs ys e = cc

-- an element counts where the sum is above zero
abbrev pub HasOne : {A : Type 0} → (A → ℕ) → List A → Type 0
HasOne {A} f xs = (i : ℕ) × (x : A) × (slice_get xs i ≡ Some x) × (1 ≤ f x)

one_by : {A : Type 0} (f : A → ℕ) (x : A) (xs : List A) (n : ℕ) → f x ≡ n → (n ≡ 0 → HasOne f xs) → HasOne f (x ∷ xs)
one_by f x xs zero e rest =
    let r = rest refl in
    (suc r.0, r.1, r.2, r.3)
one_by f x xs (suc n) e rest = (0, x, refl, omega arith)

pub one_counts : {A : Type 0} (f : A → ℕ) (xs : List A) → 1 ≤ sum_by f xs → HasOne f xs
one_counts f [] some = absurd (omega arith)
one_counts f (x ∷ xs) some = one_by f x xs (f x) refl (λ none. one_counts f xs (omega (arith, sum_by-cons f x xs)))
