-- A list is searched for an element of one kind, where each is of that kind or of another.
use Rattle.std.proofs.Common.{◌≡◌, ◌⊎◌, ℕ, zero, suc, List, [], ◌∷◌, Some, inl, inr, refl, subst}
use Rattle.std.specs.Prelude.{slice_get}

pub search_list : {A : Type 0} (P Q : ℕ → A → Type 0) (xs : List A) → ((i : ℕ) (x : A) → slice_get xs i ≡ Some x → P i x ⊎ Q i x)
    → ((i : ℕ) × (x : A) × (slice_get xs i ≡ Some x) × P i x) ⊎ ((i : ℕ) (x : A) → slice_get xs i ≡ Some x → Q i x)
search_list P Q [] each = inr (λ i x e. cc)
search_list {A = A} P Q (y ∷ ys) each = elim (each 0 y refl) [
  | inl here ↦ inl (0, y, refl, here)
  | inr none ↦ elim (search_list (λ i. P (suc i)) (λ i. Q (suc i)) ys (λ i x e. each (suc i) x e)) [
    | inl there ↦ inl (suc there.0, there.1, there.2, there.3)
    | inr rest ↦ inr (at_each none rest)
  ]
]
  where
    at_each : Q 0 y → ((i : ℕ) (x : A) → slice_get ys i ≡ Some x → Q (suc i) x) → (i : ℕ) (x : A) → slice_get (y ∷ ys) i ≡ Some x → Q i x
    at_each none rest zero x e = let same : y ≡ x = cc in subst (Q 0) same none
    at_each none rest (suc i) x e = rest i x e

-- an element that is so, or none is
pub search_for : {A : Type 0} (P : ℕ → A → Type 0) (xs : List A) → ((i : ℕ) (x : A) → slice_get xs i ≡ Some x → Dec (P i x))
    → ((i : ℕ) × (x : A) × (slice_get xs i ≡ Some x) × P i x) ⊎ ((i : ℕ) (x : A) → slice_get xs i ≡ Some x → P i x → ⊥)
search_for P xs each = search_list P (λ i x. P i x → ⊥) xs (λ i x at. elim (each i x at) [ yes here ↦ inl here | no none ↦ inr none ])
