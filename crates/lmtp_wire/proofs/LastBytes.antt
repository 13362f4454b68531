-- The end of a text with one more byte; what a dot's place and dots after a text depend on.
use Rattle.std.proofs.Common.{◌≡◌, ℕ, ◌-◌, ◌≤◌, List, [], ◌∷◌, ◌++◌, length, drop, Bool, true, false, ◌&&◌, ◌==◌, inl, inr, refl, ap, sym, ◌∙◌, arith}
use Rattle.std.proofs.Common.{length-append}
use Rattle.std.proofs.Math.Bool.{and-false}
use Rattle.std.proofs.lemmas.List.{drop-append-le}
use Rattle.std.specs.Cmp.Lexicographic.{pointwise}
use Rattle.std.specs.Prelude.{nat_eq}
use Rattle.std.proofs.lemmas.Bool.{eq-eqb}
use Rattle.std.proofs.lemmas.Bool.Decides.{eqb_tells}
use Rattle.mail_world.specs.Text.{cr, lf, ends_in}
use Rattle.mail_world.specs.Data.{without_dots}
use Rattle.mail_world.proofs.OneLine.{other_byte}
use Rattle.mail_world.proofs.Stuffed.{same_window}

pub eqb_comm : (a b : ℕ) → (a == b) ≡ (b == a)
eqb_comm a b = elim (eqb_tells a b) [
  | inl same ↦ same.0 ∙ sym (eq-eqb b a (sym same.1))
  | inr other ↦ other.0 ∙ sym (other_byte b a (λ e. other.1 (sym e)))
]

and_comm : (x y : Bool) → (x && y) ≡ (y && x)
and_comm true true = refl
and_comm true false = refl
and_comm false true = refl
and_comm false false = refl

and_assoc : (x y z : Bool) → (x && (y && z)) ≡ (x && y && z)
and_assoc true y z = refl
and_assoc false y z = refl

-- two texts, each with one more byte
same_more : (xs ys : List ℕ) (c b : ℕ) → pointwise nat_eq (xs ++ c ∷ []) (ys ++ b ∷ []) ≡ pointwise nat_eq xs ys && (c == b)
same_more [] [] c b = and_comm (c == b) true
same_more [] (y ∷ []) c b = (and-false) (c == y)
same_more [] (y ∷ z ∷ ys) c b = (and-false) (c == y)
same_more (x ∷ []) [] c b = (and-false) (x == b)
same_more (x ∷ z ∷ xs) [] c b = (and-false) (x == b)
same_more (x ∷ xs) (y ∷ ys) c b = ap (λ r. (x == y) && r) (same_more xs ys c b) ∙ and_assoc (x == y) (pointwise nat_eq xs ys) (c == b)

-- a text ends in a part with one more byte
pub ends_more : (xs u : List ℕ) (c b : ℕ) → ends_in (xs ++ c ∷ []) (u ++ b ∷ []) ≡ ends_in xs u && (c == b)
ends_more xs u c b =
    let n : length (u ++ b ∷ []) - length (xs ++ c ∷ []) ≡ length u - length xs = omega (arith, length-append u (b ∷ []), length-append xs (c ∷ [])) in
    let within : length u - length xs ≤ length u = omega arith in
    ap (λ k. pointwise nat_eq (xs ++ c ∷ []) (drop k (u ++ b ∷ []))) n
    ∙ ap (λ l. pointwise nat_eq (xs ++ c ∷ []) l) (drop-append-le (length u - length xs) u (b ∷ []) within)
    ∙ same_more xs (drop (length u - length xs) u) c b

-- the byte before the last counts only where it is CR
-- after text, nothing of the end of data
pub fades : (a b : ℕ) (text : List ℕ) → (b == cr) ≡ false → ((a == cr) && (b == lf)) ≡ false → without_dots a b text ≡ without_dots 0 0 text
fades a b [] e f = refl
fades a b (c ∷ text) e f = rw f (ap (λ l. c ∷ l) (same_window b 0 c text e refl))

-- after a CR
pub fades_cr : (a : ℕ) (text : List ℕ) → without_dots a cr text ≡ without_dots 0 cr text
fades_cr a [] = refl
fades_cr a (c ∷ text) = rw (and-false) refl
