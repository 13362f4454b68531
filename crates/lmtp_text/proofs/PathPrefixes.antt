-- The place of the first byte that fails a test, as the length of the prefix that passes.
use Rattle.std.proofs.Common.{◌≡◌, ℕ, ◌+◌, ◌≤◌, Bool, true, false, not, cond, ltb, List, [], ◌∷◌, length, Option, Some, None, ap, ◌∙◌, refl, arith}
use Rattle.std.specs.Prelude.{unwrap_or}
use Rattle.std.specs.List.{position_or_len, prefix_len}
use Rattle.std.proofs.lemmas.Bool.Decides.{nat_tests}
use Rattle.std.proofs.lemmas.List.Sums.{prefix_len-le-length}

fails_step : (t : Bool) (n m : ℕ) → n ≡ m → cond (not (not t)) (1 + n) 0 ≡ cond t (1 + m) 0
fails_step true n m e = ap (λ k. 1 + k) e
fails_step false n m e = refl

first_fails : (p : ℕ → Bool) (text : List ℕ) → position_or_len (λ b. not (p b)) text ≡ prefix_len p text
first_fails p [] = refl
first_fails p (b ∷ text) = fails_step (p b) _ _ (first_fails p text)

place_or_all : (k n : ℕ) → k ≤ n → unwrap_or (cond (ltb k n) (Some k) None) n ≡ k
place_or_all k n h = grind (arith, nat_tests)

pub prefix_is : (p : ℕ → Bool) (text : List ℕ) (r : Option ℕ) (n : ℕ)
    → r ≡ cond (ltb (position_or_len (λ b. not (p b)) text) (length text)) (Some (position_or_len (λ b. not (p b)) text)) None
    → n ≡ unwrap_or r (length text) → n ≡ prefix_len p text
prefix_is p text r n e f = f ∙ ap (λ o. unwrap_or o (length text)) e ∙ rw (first_fails p text) (place_or_all _ _ (prefix_len-le-length p text))
