-- A test that some element meets, or a sum over all of them that is nothing.
use Rattle.std.proofs.Common.{◌≡◌, ◌⊎◌, ℕ, List, [], ◌∷◌, Bool, true, false, Some, inl, inr, refl, arith}
use Rattle.std.specs.Prelude.{slice_get, flat_map, sum_by}
use Rattle.std.specs.List.{list_any}
use Rattle.std.proofs.lemmas.List.Sums.{sum_by-cons}
use Rattle.mail_progress.proofs.Sums.{sum_none}
use Rattle.mail_progress.proofs.Search.{search_list}

found : {A : Type 0} (test : A → Bool) (g : A → ℕ) → ((x : A) → test x ≡ false → g x ≡ 0) → (xs : List A) → (list_any test xs ≡ true) ⊎ (sum_by g xs ≡ 0)
found test g nothing [] = inr refl
found test g nothing (x ∷ xs) = by (test x) refl (found test g nothing xs)
  where
    by : (t : Bool) → test x ≡ t → (list_any test xs ≡ true) ⊎ (sum_by g xs ≡ 0) → (list_any test (x ∷ xs) ≡ true) ⊎ (sum_by g (x ∷ xs) ≡ 0)
    by true e rest = inl (rw e refl)
    by false e (inl there) = inl (rw e there)
    by false e (inr none) = inr (let z = nothing x e in omega (arith, sum_by-cons g x xs))

pub found_in : {A B : Type 0} (f : A → List B) (test : B → Bool) (g : B → ℕ) → ((x : B) → test x ≡ false → g x ≡ 0) → (xs : List A)
    → ((i : ℕ) × (x : A) × (slice_get xs i ≡ Some x) × (list_any test (f x) ≡ true)) ⊎ (sum_by g (flat_map f xs) ≡ 0)
found_in f test g nothing xs = elim (search_list (λ i x. list_any test (f x) ≡ true) (λ i x. sum_by g (f x) ≡ 0) xs (λ i x at. found test g nothing (f x))) [
  | inl there ↦ inl there
  | inr none ↦ inr (sum_none f g xs none)
]
