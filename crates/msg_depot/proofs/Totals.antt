-- What the views of a slot add up to.
use Rattle.std.proofs.Common.{◌≡◌, ◌≢◌, ℕ, zero, suc, ◌+◌, ◌<◌, ◌≤◌, eqb, List, [], ◌∷◌, ◌++◌, length, get_or, set, Bool, true, false, refl, sym, ap, ◌∙◌}
use Rattle.std.proofs.Common.{arith, eq-eqb, ne_eqb}
use mathlib.Core.Option.{some, some-injective, some-ne-none}
use lib.ListN.{get_elem?}
use Rattle.msg_depot.specs.declared.view.View.{View}
use Rattle.msg_depot.specs.Rules.{at, when, total, positive}

pub total_set : (f : View → ℕ) (vs : List View) (i : ℕ) (v w : View) → get_elem? vs i ≡ some v → total f (set vs i w) + f v ≡ total f vs + f w
total_set f [] i v w e = absurd (some-ne-none v (sym e))
total_set f (x ∷ xs) zero v w e = let is : f x ≡ f v = ap f (some-injective x v e) in omega arith
total_set f (x ∷ xs) (suc i) v w e = let r = total_set f xs i v w e in omega arith

pub total_snoc : (f : View → ℕ) (vs : List View) (w : View) → total f (vs ++ w ∷ []) ≡ total f vs + f w
total_snoc f [] w = omega arith
total_snoc f (x ∷ xs) w = let r = total_snoc f xs w in omega arith

pub total_has : (f : View → ℕ) (vs : List View) (i : ℕ) (v : View) → get_elem? vs i ≡ some v → f v ≤ total f vs
total_has f [] i v e = absurd (some-ne-none v (sym e))
total_has f (x ∷ xs) zero v e = let is : f x ≡ f v = ap f (some-injective x v e) in omega arith
total_has f (x ∷ xs) (suc i) v e = let r = total_has f xs i v e in omega arith

-- two seats together have no more than all
pub total_two : (f : View → ℕ) (vs : List View) (i j : ℕ) (v u : View) → j ≢ i → get_elem? vs i ≡ some v → get_elem? vs j ≡ some u → f v + f u ≤ total f vs
total_two f [] i j v u ne e d = absurd (some-ne-none v (sym e))
total_two f (x ∷ xs) zero zero v u ne e d = absurd (ne refl)
total_two f (x ∷ xs) zero (suc j) v u ne e d = let is : f x ≡ f v = ap f (some-injective x v e) in let r = total_has f xs j u d in omega arith
total_two f (x ∷ xs) (suc i) zero v u ne e d = let is : f x ≡ f u = ap f (some-injective x u d) in let r = total_has f xs i v e in omega arith
total_two f (x ∷ xs) (suc i) (suc j) v u ne e d = let r = total_two f xs i j v u (λ q. ne (ap suc q)) e d in omega arith

pub when_zero : (b : Bool) → when b 0 ≡ 0
when_zero true = refl
when_zero false = refl

pub at_here : (i : ℕ) (g : View → ℕ) (v : View) → v.claim.slot ≡ i → at i g v ≡ g v
at_here i g v e = ap (λ (b : Bool). when b (g v)) (eq-eqb v.claim.slot i e)

pub at_else : (i : ℕ) (g : View → ℕ) (v : View) → v.claim.slot ≢ i → at i g v ≡ 0
at_else i g v e = ap (λ (b : Bool). when b (g v)) (ne_eqb v.claim.slot i e)

pub at_none : (i : ℕ) (g : View → ℕ) (v : View) → g v ≡ 0 → at i g v ≡ 0
at_none i g v e = ap (λ (n : ℕ). when (eqb v.claim.slot i) n) e ∙ when_zero (eqb v.claim.slot i)

pub positive_one : (n : ℕ) → 0 < n → positive n ≡ 1
positive_one zero h = absurd (omega arith)
positive_one (suc n) h = refl

total_none : (f : View → ℕ) (vs : List View) → ((j : ℕ) (u : View) → get_elem? vs j ≡ some u → f u ≡ 0) → total f vs ≡ 0
total_none f [] h = refl
total_none f (x ∷ xs) h = let a = h 0 x refl in let b = total_none f xs (λ j u e. h (suc j) u e) in omega arith

-- where no other seat has any, one has all
pub total_alone : (f : View → ℕ) (vs : List View) (i : ℕ) (v : View) → ((j : ℕ) (u : View) → j ≢ i → get_elem? vs j ≡ some u → f u ≡ 0)
    → get_elem? vs i ≡ some v → total f vs ≡ f v
total_alone f [] i v h e = absurd (some-ne-none v (sym e))
total_alone f (x ∷ xs) zero v h e = let is : f x ≡ f v = ap f (some-injective x v e) in let b =
    total_none f xs (λ j u d. h (suc j) u (λ q. absurd (omega arith)) d) in omega arith
total_alone f (x ∷ xs) (suc i) v h e = let a = h 0 x (λ q. absurd (omega arith)) refl in let b =
    total_alone f xs i v (λ j u ne d. h (suc j) u (λ q. ne (omega arith)) d) e in omega arith

pub within : {A : Type 0} (l : List A) (k : ℕ) (x : A) → get_elem? l k ≡ some x → k < length l
within [] k x q = absurd (some-ne-none x (sym q))
within (y ∷ ys) zero x q = omega arith
within (y ∷ ys) (suc k) x q = let z = within ys k x q in omega arith

pub elem_at : {A : Type 0} (l : List A) (k : ℕ) (d : A) → k < length l → get_elem? l k ≡ some (get_or l k d)
elem_at [] k d h = absurd (omega arith)
elem_at (y ∷ ys) zero d h = refl
elem_at (y ∷ ys) (suc k) d h = elem_at ys k d (omega arith)

pub elem_is : {A : Type 0} (l : List A) (k : ℕ) (d x : A) → get_elem? l k ≡ some x → get_or l k d ≡ x
elem_is [] k d x q = absurd (some-ne-none x (sym q))
elem_is (y ∷ ys) zero d x q = some-injective y x q
elem_is (y ∷ ys) (suc k) d x q = elem_is ys k d x q
