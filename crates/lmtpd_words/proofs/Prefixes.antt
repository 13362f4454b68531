-- The place of the first byte that passes a test, and what is before the first that fails one.
use Rattle.std.proofs.Common.{◌≡◌, ℕ, suc, ◌+◌, ◌≤◌, Bool, true, false, cond, ltb, ◌&&◌, List, [], ◌∷◌, length, take, Option, Some, None, ap, ◌∙◌, refl, arith}
use Rattle.std.specs.Prelude.{unwrap_or}
use Rattle.std.specs.List.{list_all, position_or_len, prefix_len}
use Rattle.std.proofs.lemmas.Bool.Decides.{nat_tests}
use Rattle.std.proofs.lemmas.List.Sums.{prefix_len-le-length}

place_or_all : (k n : ℕ) → k ≤ n → unwrap_or (cond (ltb k n) (Some k) None) n ≡ k
place_or_all k n h = grind (arith, nat_tests)

pub place_is : (p : ℕ → Bool) (text : List ℕ) (r : Option ℕ) (n : ℕ) → r ≡ cond (ltb (position_or_len p text) (length text)) (Some (position_or_len p text)) None
    → n ≡ unwrap_or r (length text) → n ≡ position_or_len p text
place_is p text r n e f = f ∙ ap (λ o. unwrap_or o (length text)) e ∙ place_or_all _ _ (prefix_len-le-length _ text)

taken : (n b : ℕ) (text : List ℕ) → take (1 + n) (b ∷ text) ≡ b ∷ take n text
taken n b text = let e : 1 + n ≡ suc n = omega arith in ap (λ k. take k (b ∷ text)) e

one_more : (p : ℕ → Bool) (b n : ℕ) (text : List ℕ) (t : Bool) → p b ≡ t → list_all p (take n text) ≡ true
    → list_all p (take (cond t (1 + n) 0) (b ∷ text)) ≡ true
one_more p b n text true e h = ap (list_all p) (taken n b text) ∙ (ap (λ u. u && list_all p (take n text)) e ∙ h)
one_more p b n text false e h = refl

pub all_in_prefix : (p : ℕ → Bool) (text : List ℕ) → list_all p (take (prefix_len p text) text) ≡ true
all_in_prefix p [] = refl
all_in_prefix p (b ∷ text) = one_more p b (prefix_len p text) text (p b) refl (all_in_prefix p text)
