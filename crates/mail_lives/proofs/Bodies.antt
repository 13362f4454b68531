-- The lines of a letter that isn't whole.
use Rattle.std.proofs.Common.{◌≡◌, ◌⊎◌, ℕ, List, [], ◌∷◌, ◌++◌, Bool, true, false, cond, ◌&&◌, ◌==◌, map, inl, inr, refl, sym, ap, ◌∙◌, append_assoc, append-nil, subst}
use Rattle.std.specs.Prelude.{codes, drop}
use Rattle.std.specs.List.{AllByRecursion}
use Rattle.std.specs.Str.{byte}
use Rattle.std.proofs.lemmas.List.{map-append}
use Rattle.std.proofs.lemmas.Grind.{flat_map-append}
use Rattle.std.proofs.lemmas.Bool.{or_cases, and_parts, cases_Bool, eqb-true}
use Rattle.mail_world.specs.Text.{lf, begins_with, lines, with_lf, IsOneLine}
use Rattle.mail_world.specs.Records.{is_from_line, quoted, quoted_text}
use Rattle.mail_world.specs.Reading.{Letter, IsLetter, letter_text}
use Rattle.mail_world.proofs.OneLine.{one_line-cons, one_line-tail, one_line-append, literal}
use Rattle.mail_world.proofs.Places.{begins_with-prefix, begins_with-append}
use Rattle.mail_world.proofs.Letters.{lines-with_lf, ends-with_lf}
use Rattle.mail_world.proofs.OneReading.{lines-each, quoted-each, quoted-not_from_by}
use Rattle.mail_world.specs.Endings.{Ending, Empty, OneLf, TwoLf, next, ending_from, ending}
use Rattle.mail_world.proofs.Endings.{ending-append}
use Rattle.mail_lives.proofs.Mending.{line_after}

-- a letter up to some line of its body
abbrev pub opening : List ℕ → List (List ℕ) → List ℕ
opening head ls = codes "From " ++ head ++ (lf ∷ []) ++ with_lf (map quoted ls)

abbrev pub letter_with : List ℕ → List (List ℕ) → Letter
letter_with head ls = record { head = head; body = with_lf ls }

quoted_lines : (ls : List (List ℕ)) → AllByRecursion IsOneLine ls → quoted_text (with_lf ls) ≡ with_lf (map quoted ls)
quoted_lines ls h =
    ap (λ (ms : List (List ℕ)). with_lf (map quoted ms))
    (ap lines (sym (append-nil (with_lf ls))) ∙ lines-with_lf ls [] h ∙ append-nil ls)

pub letter_is : (head : List ℕ) (ls : List (List ℕ)) → IsOneLine head → AllByRecursion IsOneLine ls → IsLetter (letter_with head ls)
letter_is head ls one all = record { head = one; body = ends-with_lf ls }

pub letter_made : (head : List ℕ) (ls : List (List ℕ)) → AllByRecursion IsOneLine ls → letter_text (letter_with head ls) ≡ opening head ls ++ lf ∷ []
letter_made head ls h = ap (λ t. codes "From " ++ head ++ (lf ∷ []) ++ t ++ lf ∷ []) (quoted_lines ls h)

with_lf-push : (ls : List (List ℕ)) (line : List ℕ) → with_lf (map quoted (ls ++ line ∷ [])) ≡ with_lf (map quoted ls) ++ (quoted line ++ lf ∷ [])
with_lf-push ls line =
    ap with_lf (map-append quoted ls (line ∷ []))
    ∙ flat_map-append (λ l. l ++ lf ∷ []) (map quoted ls) (quoted line ∷ [])
    ∙ ap (λ t. with_lf (map quoted ls) ++ t) (append-nil (quoted line ++ lf ∷ []))

pub opening-push : (head : List ℕ) (ls : List (List ℕ)) (line : List ℕ) → opening head (ls ++ line ∷ []) ≡ opening head ls ++ (quoted line ++ lf ∷ [])
opening-push head ls line =
    let first : List ℕ = codes "From " ++ head ++ (lf ∷ []) in
    ap (λ t. first ++ t) (with_lf-push ls line) ∙ sym (append_assoc first (with_lf (map quoted ls)) (quoted line ++ lf ∷ []))

-- ---- how such a text ends

-- after its lines it ends with an empty one, or with another
abbrev pub AtLine : List (List ℕ) → Ending → Type 0
AtLine ls e = (e ≡ OneLf) ⊎ ((e ≡ TwoLf) × (shorter : List (List ℕ)) × (ls ≡ shorter ++ [] ∷ []))

-- ---- a part of a written line is a written line

from_kept : (text more : List ℕ) → begins_with (codes "From ") text ≡ true → begins_with (codes "From ") (text ++ more) ≡ true
from_kept text more h =
    let rest : List ℕ = drop 5 text in
    ap (λ t. begins_with (codes "From ") (t ++ more)) (begins_with-prefix (codes "From ") text h)
    ∙ ap (begins_with (codes "From ")) (append_assoc (codes "From ") rest more)
    ∙ begins_with-append (codes "From ") (rest ++ more)

pub not_from_part : (line text more : List ℕ) → quoted line ≡ text ++ more → begins_with (codes "From ") text ≡ false
not_from_part line text more e = elim (cases_Bool (begins_with (codes "From ") text)) [
  | inl yes' ↦
      let is : begins_with (codes "From ") (text ++ more) ≡ true = from_kept text more yes' in
      let not_is : begins_with (codes "From ") (quoted line) ≡ false = quoted-not_from_by line (is_from_line line) refl in
      let same : begins_with (codes "From ") (quoted line) ≡ begins_with (codes "From ") (text ++ more) = ap (begins_with (codes "From ")) e in
      cc
  | inr no' ↦ no'
]

pub record IsWritten (text : List ℕ) : Type 0 where
  pub line : List ℕ
  pub one : IsOneLine line
  pub is : quoted line ≡ text

written_by : (text : List ℕ) (t : Bool) → is_from_line text ≡ t → begins_with (codes "From ") text ≡ false → IsOneLine text → IsWritten text
written_by text false e h one = record { line = text; one = one; is = rw e refl }
written_by [] true e h one = cc
written_by (b ∷ text) true e h one =
    let quotes : ((b == byte ">") && is_from_line text) ≡ true =
    elim (or_cases (begins_with (codes "From ") (b ∷ text)) ((b == byte ">") && is_from_line text) e) [ inl from ↦ cc | inr is ↦ is ] in
    let both = and_parts (b == byte ">") (is_from_line text) quotes in
    record {
      line = text;
      one = one_line-tail b text one;
      is = ap (λ t. cond t (byte ">" ∷ text) text) both.1 ∙ ap (λ c. c ∷ text) (sym (eqb-true b (byte ">") both.0));
    }

pub part_is_written : (line text more : List ℕ) → quoted line ≡ text ++ more → IsOneLine text → IsWritten text
part_is_written line text more e one = written_by text (is_from_line text) refl (not_from_part line text more e) one

some_line : (e : Ending) (b : ℕ) (line : List ℕ) (t : Bool) → IsOneLine (cond t (byte ">" ∷ b ∷ line) (b ∷ line))
    → ending_from e (cond t (byte ">" ∷ b ∷ line) (b ∷ line) ++ lf ∷ []) ≡ OneLf
some_line e b line true one = line_after e (byte ">") (b ∷ line) one
some_line e b line false one = line_after e b line one

pub at_next : (ls : List (List ℕ)) (line : List ℕ) (e : Ending) → IsOneLine (quoted line) → AtLine ls e
    → AtLine (ls ++ line ∷ []) (ending_from e (quoted line ++ lf ∷ []))
at_next ls [] e one (inl is) = inr (ap (λ x. next x lf) is, ls, refl)
at_next ls [] e one (inr found) = inr (ap (λ x. next x lf) (found.0), ls, refl)
at_next ls (b ∷ line) e one at = inl (some_line e b line (is_from_line (b ∷ line)) one)

-- ---- after all its lines

pub at_push : (head : List ℕ) (ls : List (List ℕ)) (line : List ℕ) → IsOneLine line → AtLine ls (ending (opening head ls))
    → AtLine (ls ++ line ∷ []) (ending (opening head (ls ++ line ∷ [])))
at_push head ls line single at =
    let quotes : IsOneLine (quoted line) = (quoted-each (line ∷ []) (single, tt)).0 in
    subst (AtLine (ls ++ line ∷ [])) (sym (ap ending (opening-push head ls line) ∙ ending-append Empty (opening head ls) (quoted line ++ lf ∷ [])))
    (at_next ls line (ending (opening head ls)) quotes at)

at_more : (head : List ℕ) (ls more : List (List ℕ)) → AllByRecursion IsOneLine more → AtLine ls (ending (opening head ls))
    → AtLine (ls ++ more) (ending (opening head (ls ++ more)))
at_more head ls [] all at = subst (λ (l : List (List ℕ)). AtLine l (ending (opening head l))) (sym (append-nil ls)) at
at_more head ls (line ∷ more) all at =
    subst (λ (l : List (List ℕ)). AtLine l (ending (opening head l))) (append_assoc ls (line ∷ []) more)
    (at_more head (ls ++ line ∷ []) more all.1 (at_push head ls line all.0 at))

pub at_start : (head : List ℕ) → IsOneLine head → AtLine [] (ending (opening head []))
at_start head single =
    let rest : List ℕ = codes "rom " ++ head in
    inl (ap ending (append-nil (codes "From " ++ head ++ (lf ∷ [])))
    ∙ line_after Empty (byte "F") rest (one_line-cons (byte "F") rest refl (one_line-append (codes "rom ") head (literal (codes "rom ") refl) single)))

pub lf_ends : (ls : List (List ℕ)) (e : Ending) → AtLine ls e → next e lf ≡ TwoLf
lf_ends ls e (inl is) = ap (λ x. next x lf) is
lf_ends ls e (inr found) = ap (λ x. next x lf) (found.0)

-- a letter ends with an empty line
pub whole_ends : (letter : Letter) → IsLetter letter → ending (letter_text letter) ≡ TwoLf
whole_ends letter is =
    let ls : List (List ℕ) = lines letter.body in
    ending-append Empty (opening letter.head ls) (lf ∷ [])
    ∙ lf_ends ls (ending (opening letter.head ls)) (at_more letter.head [] ls (lines-each letter.body) (at_start letter.head is.head))
