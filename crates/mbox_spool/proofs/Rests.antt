-- The rest of a line and what stands after it, as it is written.
use Rattle.std.proofs.Common.{◌≡◌, ◌≢◌, ℕ, Bool, true, false, ◌&&◌, ◌==◌, List, [], ◌∷◌, ◌++◌, map, sym, ap, ◌∙◌, refl, inl, inr, append_assoc}
use Rattle.std.specs.Prelude.{codes, if◌then◌else◌}
use Rattle.std.specs.List.{onto_first}
use Rattle.std.proofs.lemmas.Bool.{false_from_ne_true, or_parts, eqb-true, cases_Bool}
use Rattle.mail_world.specs.Text.{cr, lf, has_byte, begins, unix, lines, with_lf}
use Rattle.mail_world.specs.Records.{is_from_line, quoted, quoted_text}
use Rattle.mail_world.proofs.Quoting.{quoted_more}
use Rattle.mbox_spool.specs.Quoted.{line_rest, after_quote_mark}

-- the text up to its first LF, and after it
abbrev pub first_line : List ℕ → List ℕ
first_line [] = []
first_line (b ∷ text) = if b == lf then [] else b ∷ first_line text

abbrev pub after_one_line : List ℕ → List ℕ
after_one_line [] = []
after_one_line (b ∷ text) = if b == lf then text else after_one_line text

rest_by : (t : Bool) (b : ℕ) (text : List ℕ) → line_rest text ≡ first_line text ++ lf ∷ quoted_text (after_one_line text)
    → (if t then lf ∷ quoted_text text else b ∷ line_rest text) ≡ (if t then [] else b ∷ first_line text) ++ lf
    ∷ quoted_text (if t then text else after_one_line text)
rest_by true b text e = refl
rest_by false b text e = ap (λ (l : List ℕ). b ∷ l) e

line_rest-first : (text : List ℕ) → line_rest text ≡ first_line text ++ lf ∷ quoted_text (after_one_line text)
line_rest-first [] = refl
line_rest-first (b ∷ text) = rest_by (b == lf) b text (line_rest-first text)

lines_by : (t : Bool) (b c : ℕ) (text : List ℕ) → lines (c ∷ text) ≡ first_line (c ∷ text) ∷ lines (after_one_line (c ∷ text))
    → (if t then [] ∷ lines (c ∷ text) else onto_first b (lines (c ∷ text)))
    ≡ (if t then [] else b ∷ first_line (c ∷ text)) ∷ lines (if t then c ∷ text else after_one_line (c ∷ text))
lines_by true b c text e = refl
lines_by false b c text e = ap (onto_first b) e

one_by : (t : Bool) (b : ℕ) → (if t then [] ∷ [] else (b ∷ []) ∷ []) ≡ (if t then [] else b ∷ []) ∷ lines (if t then [] else [])
one_by true b = refl
one_by false b = refl

lines-first : (b : ℕ) (text : List ℕ) → lines (b ∷ text) ≡ first_line (b ∷ text) ∷ lines (after_one_line (b ∷ text))
lines-first b [] = one_by (b == lf) b
lines-first b (c ∷ text) = lines_by (b == lf) b c text (lines-first c text)

quoted_text-first : (b : ℕ) (text : List ℕ) → quoted_text (b ∷ text) ≡ quoted (first_line (b ∷ text)) ++ lf ∷ quoted_text (after_one_line (b ∷ text))
quoted_text-first b text =
    ap (λ (ls : List (List ℕ)). with_lf (map quoted ls)) (lines-first b text)
    ∙ append_assoc (quoted (first_line (b ∷ text))) (lf ∷ []) (quoted_text (after_one_line (b ∷ text)))

-- a line that is no From line is written as it is
pub plain_line : (b : ℕ) (text : List ℕ) → is_from_line (first_line (b ∷ text)) ≡ false → quoted_text (b ∷ text) ≡ line_rest (b ∷ text)
plain_line b text e = quoted_text-first b text
    ∙ ap (λ (t : Bool). (if t then 62 ∷ first_line (b ∷ text) else first_line (b ∷ text)) ++ lf ∷ quoted_text (after_one_line (b ∷ text))) e
    ∙ sym (line_rest-first (b ∷ text))

-- a `>` at its beginning, and the rest
pub marked_line : (text : List ℕ) → quoted_text (62 ∷ text) ≡ 62 ∷ after_quote_mark text
marked_line [] = refl
marked_line (b ∷ text) =
    quoted_text-first 62 (b ∷ text) ∙ ap (λ (l : List ℕ). l ++ lf ∷ quoted_text (after_one_line (b ∷ text))) (quoted_more (first_line (b ∷ text)))
    ∙ ap (λ (l : List ℕ). 62 ∷ l) (sym (quoted_text-first b text))

-- a From line
pub from_line : (text : List ℕ) → quoted_text (codes "From " ++ text) ≡ codes ">From " ++ line_rest text
from_line text = quoted_text-first 70 (codes "rom " ++ text) ∙ ap (λ (l : List ℕ). codes ">From " ++ l) (sym (line_rest-first text))

-- inside a line
kept_by : (t : Bool) (u v : List ℕ) → (if t && false then u else v) ≡ v
kept_by true u v = refl
kept_by false u v = refl

-- the line's last byte isn't CR
abbrev pub EndsPlainly : List ℕ → Type 0
EndsPlainly line = (before : List ℕ) → line ≢ before ++ cr ∷ []

pub inside_line : (line rest : List ℕ) → has_byte line lf ≡ false → (begins lf rest ≡ true → EndsPlainly line)
    → line_rest (unix (line ++ rest)) ≡ line ++ line_rest (unix rest)
inside_line [] rest e free = refl
inside_line (b ∷ []) rest e free =
    let here = (or_parts (b == lf) false e).0 in
    elim (cases_Bool (begins lf rest)) [
      | inl before ↦
          let other = false_from_ne_true (b == cr) (λ t. free before [] (ap (λ (c : ℕ). c ∷ []) (eqb-true b cr t))) in
          rw (other, here) refl
      | inr before ↦
          let same : unix (b ∷ rest) ≡ b ∷ unix rest = rw before (kept_by (b == cr) (unix rest) (b ∷ unix rest)) in
          ap line_rest same ∙ rw here refl
    ]
inside_line (b ∷ c ∷ line) rest e free =
    let parts = or_parts (b == lf) (has_byte (c ∷ line) lf) e in
    let next = (or_parts (c == lf) (has_byte line lf) parts.1).0 in
    let more : List ℕ = unix (c ∷ line ++ rest) in
    let same : unix (b ∷ c ∷ line ++ rest) ≡ b ∷ more = rw next (kept_by (b == cr) more (b ∷ more)) in
    ap line_rest same
    ∙ rw parts.0 (ap (λ (l : List ℕ). b ∷ l) (inside_line (c ∷ line) rest parts.1 (λ t before d. free t (b ∷ before) (ap (λ (l : List ℕ). b ∷ l) d))))
