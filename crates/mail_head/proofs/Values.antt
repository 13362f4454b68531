-- The first value in the lines that are left.
use Rattle.std.proofs.Common.{◌≡◌, ℕ, suc, true, false, ◌==◌, List, ◌++◌, length, take, min, Option, Some, None, refl, sym, ap, ◌∙◌, arith}
use Rattle.std.proofs.lemmas.List.{take_min}
use Rattle.mail_head.specs.MessageIds.{line_of, after_line, lines_within, begun_value, folded_value, first_value}

-- the head ends
pub none_here : (rest : List ℕ) (left next : ℕ) → left ≡ suc next → (length (line_of rest) == 0) ≡ true → first_value (lines_within left rest) ≡ None
none_here rest left next one empty = ap (λ n. first_value (lines_within n rest)) one ∙ ended next
  where
    ended : (n : ℕ) → ◌≡◌ {A = Option (List ℕ)} (first_value (lines_within (suc n) rest)) None
    ended n = rw empty refl

-- the field begins
pub some_here : (rest after value : List ℕ) (left next : ℕ) → left ≡ suc next → (length (line_of rest) == 0) ≡ false
    → Some value ≡ begun_value (line_of rest) → after ≡ after_line rest
    → first_value (lines_within left rest) ≡ Some (value ++ folded_value (lines_within next after))
some_here rest after value left next one some begun past = ap (λ n. first_value (lines_within n rest)) one ∙ found
  where
    found : ◌≡◌ {A = Option (List ℕ)} (first_value (lines_within (suc next) rest)) (Some (value ++ folded_value (lines_within next after)))
    found = rw (some, sym begun, past) refl

-- or it is looked for further on
pub none_yet : (rest after : List ℕ) (left next : ℕ) → left ≡ suc next → (length (line_of rest) == 0) ≡ false → None ≡ begun_value (line_of rest)
    → after ≡ after_line rest → first_value (lines_within next after) ≡ first_value (lines_within left rest)
none_yet rest after left next one some other past = sym (ap (λ n. first_value (lines_within n rest)) one ∙ further)
  where
    further : ◌≡◌ {A = Option (List ℕ)} (first_value (lines_within (suc next) rest)) (first_value (lines_within next after))
    further = rw (some, sym other, past) refl

-- a text's first bytes
pub cut_to : (n most : ℕ) (text : List ℕ) → n ≡ min (length text) most → take n text ≡ take most text
cut_to n most text is =
    let e : n ≡ min most (length text) = omega (arith, is) in ap (λ n. take n text) e ∙ take_min most text
