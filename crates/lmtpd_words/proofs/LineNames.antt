-- The names that lines have, counted.
use Rattle.std.proofs.Common.{◌≡◌, ℕ, Bool, true, false, List, [], ◌∷◌, length, suc, ap, refl, cond}
use Rattle.std.specs.List.{filter}
use Rattle.lmtpd_words.specs.Boxes.{is_named, name_in, names_in}

one_more : (named : Bool) (name line : List ℕ) (names others : List (List ℕ)) → length names ≡ length others
    → length (cond named (name ∷ names) names) ≡ length (cond named (line ∷ others) others)
one_more true name line names others e = ap suc e
one_more false name line names others e = e

pub count_named : (lines : List (List ℕ)) → length (names_in lines) ≡ length (filter (λ line. is_named (name_in line)) lines)
count_named [] = refl
count_named (line ∷ lines) = one_more (is_named (name_in line)) (name_in line) line (names_in lines) _ (count_named lines)
