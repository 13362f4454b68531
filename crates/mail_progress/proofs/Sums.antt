-- Sums over lists of which one element changes, goes or is added.
use Rattle.std.proofs.Common.{◌≡◌, ℕ, zero, suc, ◌+◌, ◌≤◌, List, [], ◌∷◌, ◌++◌, drop, Some, refl, ap, arith}
use Rattle.std.specs.Prelude.{slice_get, flat_map, sum_by, replicate}
use Rattle.std.proofs.lemmas.List.Sums.{sum_by-append, sum_by-cons}

-- one more element at the end
pub sum_last : {A : Type 0} (f : A → ℕ) (xs : List A) (x : A) → sum_by f (xs ++ x ∷ []) ≡ sum_by f xs + f x
sum_last f xs x = omega (arith, sum_by-append f xs (x ∷ []), sum_by-cons f x [])

pub sum_one_more : {A : Type 0} (f : A → ℕ) (n : ℕ) (xs : List A) (x : A) → sum_by f (drop n (xs ++ x ∷ [])) ≤ sum_by f (drop n xs) + f x
sum_one_more f zero xs x = omega (arith, sum_last f xs x)
sum_one_more f (suc zero) [] x = omega arith
sum_one_more f (suc (suc n)) [] x = omega arith
sum_one_more f (suc n) (y ∷ xs) x = sum_one_more f n xs x

-- an element is part of the sum
pub sum_part : {A : Type 0} (f : A → ℕ) (xs : List A) (i : ℕ) (x : A) → slice_get xs i ≡ Some x → f x ≤ sum_by f xs
sum_part f [] i x e = cc
sum_part f (y ∷ xs) zero x e =
    let same : y ≡ x = cc in
    let count : f y ≡ f x = ap f same in
    omega (arith, sum_by-cons f y xs)
sum_part f (y ∷ xs) (suc i) x e = omega (arith, sum_part f xs i x e, sum_by-cons f y xs)

pub sum_replicate : {A : Type 0} (f : A → ℕ) (n : ℕ) (x : A) → f x ≡ 1 → sum_by f (replicate n x) ≡ n
sum_replicate f zero x e = refl
sum_replicate f (suc n) x e = omega (arith, sum_replicate f n x e, sum_by-cons f x (replicate n x), e)

-- a sum over the parts, where each part's is nothing
pub sum_none : {A B : Type 0} (f : A → List B) (g : B → ℕ) (xs : List A) → ((i : ℕ) (x : A) → slice_get xs i ≡ Some x → sum_by g (f x) ≡ 0)
    → sum_by g (flat_map f xs) ≡ 0
sum_none f g [] each = refl
sum_none f g (x ∷ xs) each =
    let first = each 0 x refl in
    omega (arith, sum_by-append g (f x) (flat_map f xs), sum_none f g xs (λ i y e. each (suc i) y e))
