-- The lines of a mailbox: each From line but the first stands after an empty line, and the last line is empty.
use Rattle.std.proofs.Common.{◌≡◌, ◌⊎◌, inl, inr, ℕ, Bool, true, false, ◌==◌, List, [], ◌∷◌, ◌++◌, map, sym, ap, ◌∙◌, refl, append_assoc, append-nil}
use Rattle.std.proofs.Common.{true≢false}
use Rattle.std.specs.Prelude.{codes}
use Rattle.std.specs.List.{AllByRecursion}
use Rattle.std.proofs.lemmas.Bool.{eqb-true, false≢true}
use Rattle.mail_world.specs.Text.{lf, lines, with_lf, IsOneLine, EmptyOrEndsIn}
use Rattle.mail_world.specs.Records.{is_from_line, quoted, quoted_text}
use Rattle.mail_world.specs.Reading.{Letter, AreLetters, letter_text, written}
use Rattle.mail_world.proofs.OneLine.{one_line-cons, literal}
use Rattle.mail_world.proofs.Letters.{ends-with_lf}
use Rattle.mail_world.proofs.OneReading.{letters_lines, written-lines, letters_lines-each, quoted-not_from_by}
use Rattle.mail_world.proofs.Places.{begins_with-append}
use Rattle.mbox_letters.proofs.Bodies.{begins_from, same_cut, from-line}

pub no_nil : (xs ys : List ℕ) (b : ℕ) → [] ≡ xs ++ b ∷ ys → ⊥
no_nil [] ys b e = cc
no_nil (x ∷ xs) ys b e = cc

-- each From line stands after an empty one; the line before the first is given
abbrev IsSpaced : List ℕ → List (List ℕ) → Type 0
IsSpaced before [] = Unit {0}
IsSpaced before (l ∷ ls) = (begins_from l ≡ true → before ≡ []) × IsSpaced l ls

spaced_body : (before : List ℕ) (ls rest : List (List ℕ)) → IsSpaced [] rest → IsSpaced before ((map quoted ls ++ [] ∷ []) ++ rest)
spaced_body before [] rest h = (λ e. absurd (false≢true e), h)
spaced_body before (l ∷ ls) rest h =
    (λ e. absurd (true≢false (sym e ∙ quoted-not_from_by l (is_from_line l) refl)), spaced_body (quoted l) ls rest h)

spaced_mail : (ls : List Letter) → IsSpaced [] (letters_lines ls)
spaced_mail [] = tt
spaced_mail (l ∷ ls) = (λ e. refl, spaced_body (codes "From " ++ l.head) (lines l.body) (letters_lines ls) (spaced_mail ls))

-- a text has no LF, or a first line
record HasLine (text : List ℕ) : Type 0 where
  line : List ℕ
  more : List ℕ
  one : IsOneLine line
  whole : text ≡ line ++ lf ∷ more

first_by : (b : ℕ) (text : List ℕ) (t : Bool) → (b == lf) ≡ t → IsOneLine text ⊎ HasLine text → IsOneLine (b ∷ text) ⊎ HasLine (b ∷ text)
first_by b text true e found = inr (record { line = []; more = text; one = literal [] refl; whole = ap (λ c. c ∷ text) (eqb-true b lf e) })
first_by b text false e (inl one) = inl (one_line-cons b text e one)
first_by b text false e (inr cut) =
    inr (record { line = b ∷ cut.line; more = cut.more; one = one_line-cons b cut.line e cut.one; whole = ap (λ l. b ∷ l) cut.whole })

first_line : (text : List ℕ) → IsOneLine text ⊎ HasLine text
first_line [] = inl (literal [] refl)
first_line (b ∷ text) = first_by b text (b == lf) refl (first_line text)

first_is : (before : List ℕ) (ls : List (List ℕ)) (more : List ℕ) → IsSpaced before ls → with_lf ls ≡ codes "From " ++ more → before ≡ []
first_is before [] more s e = cc
first_is before (l ∷ ls) more s e =
    s.0 (sym (from-line l (with_lf ls)) ∙ ap begins_from (sym (append_assoc l (lf ∷ []) (with_lf ls)) ∙ e) ∙ begins_with-append (codes "From ") more)

ends_later : (text line more : List ℕ) → text ≡ line ++ lf ∷ more → EmptyOrEndsIn (lf ∷ []) more → EmptyOrEndsIn (lf ∷ []) text
ends_later text line more e h = elim h [
  | inl f ↦ inr (line, e ∙ ap (λ (l : List ℕ). line ++ lf ∷ l) f)
  | inr f ↦ inr (line ++ lf ∷ f.0, e ∙ ap (λ (l : List ℕ). line ++ lf ∷ l) f.1 ∙ sym (append_assoc line (lf ∷ f.0) (lf ∷ [])))
]

after_byte_by : (l : List ℕ) (ls : List (List ℕ)) (text more : List ℕ) → IsOneLine l → IsSpaced l ls → with_lf (l ∷ ls) ≡ text ++ lf ∷ (codes "From " ++ more)
    → ((rest : List ℕ) → with_lf ls ≡ rest ++ lf ∷ (codes "From " ++ more) → EmptyOrEndsIn (lf ∷ []) rest) → IsOneLine text ⊎ HasLine text
    → EmptyOrEndsIn (lf ∷ []) text
after_byte_by l ls text more h s e ih (inl one) =
    let cut = same_cut l text (with_lf ls) (codes "From " ++ more) h one (sym (append_assoc l (lf ∷ []) (with_lf ls)) ∙ e) in
    inl (sym cut.0 ∙ first_is l ls more s cut.1)
after_byte_by l ls text more h s e ih (inr c) =
    let after : List ℕ = codes "From " ++ more in
    let cut = same_cut l c.line (with_lf ls) (c.more ++ lf ∷ after) h c.one
    (sym (append_assoc l (lf ∷ []) (with_lf ls)) ∙ e ∙ ap (λ (t : List ℕ). t ++ lf ∷ after) c.whole ∙ append_assoc c.line (lf ∷ c.more) (lf ∷ after)) in
    ends_later text c.line c.more c.whole (ih c.more cut.1)

after_empty : (before : List ℕ) (ls : List (List ℕ)) (text more : List ℕ) → AllByRecursion IsOneLine ls → IsSpaced before ls
    → with_lf ls ≡ text ++ lf ∷ (codes "From " ++ more) → EmptyOrEndsIn (lf ∷ []) text
after_empty before [] text more h s e = absurd (no_nil text (codes "From " ++ more) lf e)
after_empty before (l ∷ ls) text more h s e = after_byte_by l ls text more h.0 s.1 e (λ rest f. after_empty l ls rest more h.1 s.1 f) (first_line text)

-- a From line after other bytes stands after an empty line
pub from_after : (letters : List Letter) (text more : List ℕ) → AreLetters letters → written letters ≡ text ++ lf ∷ (codes "From " ++ more)
    → EmptyOrEndsIn (lf ∷ []) text
from_after letters text more h e =
    after_empty [] (letters_lines letters) text more (letters_lines-each letters h) (spaced_mail letters) (sym (written-lines letters) ∙ e)

-- the last line is empty
abbrev pub EndsEmpty : List ℕ → Type 0
EndsEmpty text = (prefix : List ℕ) × (text ≡ prefix ++ lf ∷ lf ∷ [])

letter_end_by : (first body : List ℕ) → EmptyOrEndsIn (lf ∷ []) body → EndsEmpty (first ++ (lf ∷ []) ++ body ++ (lf ∷ []))
letter_end_by first body h =
    let line : List ℕ = first ++ (lf ∷ []) in
    elim h [
      | inl e ↦ (
        first,
        ap (λ (l : List ℕ). line ++ l ++ (lf ∷ [])) e ∙ ap (λ (l : List ℕ). l ++ (lf ∷ [])) (append-nil line)
            ∙ append_assoc first (lf ∷ []) (lf ∷ []),
      )
      | inr f ↦ (
        line ++ f.0,
        ap (λ (l : List ℕ). line ++ l ++ (lf ∷ [])) f.1 ∙ ap (λ (l : List ℕ). l ++ (lf ∷ [])) (sym (append_assoc line f.0 (lf ∷ [])))
            ∙ append_assoc (line ++ f.0) (lf ∷ []) (lf ∷ []),
      )
    ]

letter_end : (l : Letter) → EndsEmpty (letter_text l)
letter_end l = letter_end_by (codes "From " ++ l.head) (quoted_text l.body) (ends-with_lf (map quoted (lines l.body)))

written_by : (l : Letter) (ls : List Letter) → (ls ≡ []) ⊎ EndsEmpty (written ls) → EndsEmpty (written (l ∷ ls))
written_by l ls (inl e) = let end = letter_end l in (end.0, ap (λ (m : List Letter). letter_text l ++ written m) e ∙ append-nil (letter_text l) ∙ end.1)
written_by l ls (inr f) = (letter_text l ++ f.0, ap (λ (m : List ℕ). letter_text l ++ m) f.1 ∙ sym (append_assoc (letter_text l) f.0 (lf ∷ lf ∷ [])))

pub written_end : (ls : List Letter) → (ls ≡ []) ⊎ EndsEmpty (written ls)
written_end [] = inl refl
written_end (l ∷ ls) = inr (written_by l ls (written_end ls))
