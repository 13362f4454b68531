-- What is found in bytes, whatever stands between letters.
use Rattle.std.proofs.Common.{◌≡◌, ◌⊎◌, ℕ, List, [], ◌∷◌, ◌++◌, Bool, true, false, cond, ◌&&◌, ◌==◌, map, inl, inr, refl, sym, ap, ◌∙◌, subst, append_assoc, append-nil}
use Rattle.std.specs.Prelude.{codes}
use Rattle.std.specs.List.{AllByRecursion, onto_first}
use Rattle.std.proofs.lemmas.Bool.{cases_Bool, eqb-true}
use Rattle.std.proofs.lemmas.Grind.{flat_map-append}
use Rattle.mail_world.specs.Text.{lf, begins_with, lines, with_lf, IsOneLine}
use Rattle.mail_world.specs.Records.{is_from_line, quoted, quoted_text}
use Rattle.mail_world.specs.Endings.{F, Fr, Fro, From, Ending, Empty, Begun, InFromLine, NoLf, OneLf, TwoLf}
use Rattle.mail_world.specs.Endings.{next, ending_from, mends}
use Rattle.mail_world.specs.Reading.{Letter, IsLetter, letter_text}
use Rattle.mail_world.proofs.Endings.{ending-append}
use Rattle.mail_world.proofs.Letters.{lines-with_lf}
use Rattle.mail_world.proofs.Places.{begins_with-append}
use Rattle.mail_world.proofs.OneLine.{one_line-append, literal}
use Rattle.mail_world.proofs.OneReading.{lines-each, quoted-each, quoted-not_from_by, whole_lines, all-append}
use Rattle.mail_lives.specs.Spoils.{Lines, is_empty, cut}
use Rattle.mail_lives.proofs.Mending.{IsInText, next_in}

-- ---- lines before others

-- these lines before those of the first part
abbrev pub onto : Lines → List Lines → List Lines
onto [] parts = parts
onto (line ∷ ls) parts = onto_first line (onto ls parts)

pub onto_is : (ls part : Lines) (parts : List Lines) → onto ls (part ∷ parts) ≡ (ls ++ part) ∷ parts
onto_is [] part parts = refl
onto_is (line ∷ ls) part parts = ap (onto_first line) (onto_is ls part parts)

-- there is a first part
abbrev pub HasFirst : List Lines → Type 0
HasFirst all = (part : Lines) × (parts : List Lines) × (all ≡ part ∷ parts)

first_onto : (line : List ℕ) (all : List Lines) → HasFirst all → HasFirst (onto_first line all)
first_onto line all has = (line ∷ has.0, has.1, ap (onto_first line) has.2)

first_by : (t : Bool) (line : List ℕ) (all : List Lines) → HasFirst all
    → HasFirst (cond t ([] ∷ onto_first line all) (onto_first line all))
first_by true line all has = ([], onto_first line all, refl)
first_by false line all has = first_onto line all has

pub has_first : (after_empty : Bool) (ls : Lines) → HasFirst (cut after_empty ls)
has_first after_empty [] = ([], [], refl)
has_first after_empty (line ∷ ls) =
    first_by (after_empty && begins_with (codes "From ") line) line (cut (is_empty line) ls) (has_first (is_empty line) ls)

onto_append : (line : List ℕ) (all more : List Lines) → HasFirst all → onto_first line (all ++ more) ≡ onto_first line all ++ more
onto_append line all more has =
    ap (λ (l : List Lines). onto_first line (l ++ more)) has.2 ∙ sym (ap (λ (l : List Lines). onto_first line l ++ more) has.2)

-- ---- where a line begins no letter, and where one does

cut_on : (after_empty : Bool) (line : List ℕ) (ls : Lines) → begins_with (codes "From ") line ≡ false
    → cut after_empty (line ∷ ls) ≡ onto_first line (cut (is_empty line) ls)
cut_on true line ls h = rw h refl
cut_on false line ls h = refl

-- the lines of a letter's body, and the empty one after them
cut_body : (after_empty : Bool) (ls rest : Lines)
    → cut after_empty ((map quoted ls ++ [] ∷ []) ++ rest) ≡ onto (map quoted ls ++ [] ∷ []) (cut true rest)
cut_body after_empty [] rest = cut_on after_empty [] rest refl
cut_body after_empty (line ∷ ls) rest =
    cut_on after_empty (quoted line) ((map quoted ls ++ [] ∷ []) ++ rest) (quoted-not_from_by line (is_from_line line) refl)
    ∙ ap (onto_first (quoted line)) (cut_body (is_empty (quoted line)) ls rest)

-- as they are written
abbrev pub lines_of : Letter → Lines
lines_of letter = (codes "From " ++ letter.head) ∷ (map quoted (lines letter.body) ++ [] ∷ [])

pub cut_letter : (letter : Letter) (rest : Lines) → cut true (lines_of letter ++ rest) ≡ [] ∷ onto (lines_of letter) (cut true rest)
cut_letter letter rest =
    let first : List ℕ = codes "From " ++ letter.head in
    let body : Lines = (map quoted (lines letter.body) ++ [] ∷ []) in
    let is : begins_with (codes "From ") first ≡ true = begins_with-append (codes "From ") letter.head in
    ap (λ t. cond t ([] ∷ onto_first first (cut false (body ++ rest))) (onto_first first (cut false (body ++ rest)))) is
    ∙ ap (λ (l : List Lines). [] ∷ onto_first first l) (cut_body false (lines letter.body) rest)

letter_is_lines : (letter : Letter) → letter_text letter ≡ with_lf (lines_of letter)
letter_is_lines letter =
    let first : List ℕ = codes "From " ++ letter.head ++ (lf ∷ []) in
    append_assoc first (quoted_text letter.body) (lf ∷ [])
    ∙ ap (λ more. first ++ more) (sym (flat_map-append (λ x. x ++ lf ∷ []) (map quoted (lines letter.body)) ([] ∷ [])))

lines_each : (letter : Letter) → IsLetter letter → AllByRecursion IsOneLine (lines_of letter)
lines_each letter is = (
  one_line-append (codes "From ") letter.head (literal (codes "From ") refl) is.head,
  all-append (map quoted (lines letter.body)) ([] ∷ []) (quoted-each (lines letter.body) (lines-each letter.body)) (literal [] refl, tt),
)

pub lines_after : (letter : Letter) (more : List ℕ) → IsLetter letter → lines (letter_text letter ++ more) ≡ lines_of letter ++ lines more
lines_after letter more is =
    ap (λ t. lines (t ++ more)) (letter_is_lines letter) ∙ lines-with_lf (lines_of letter) more (lines_each letter is)

pub lines_alone : (letter : Letter) → IsLetter letter → lines (letter_text letter) ≡ lines_of letter
lines_alone letter is =
    ap lines (sym (append-nil (letter_text letter))) ∙ lines_after letter [] is ∙ append-nil (lines_of letter)

-- ---- lines that end with an empty one, and a letter after them

cut_by : (t : Bool) (line : List ℕ) (all new more : List Lines) → HasFirst all → new ≡ all ++ more
    → cond t ([] ∷ onto_first line new) (onto_first line new) ≡ cond t ([] ∷ onto_first line all) (onto_first line all) ++ more
cut_by true line all new more has is =
    ap (λ (l : List Lines). [] ∷ l) (ap (onto_first line) is ∙ onto_append line all more has)
cut_by false line all new more has is = ap (onto_first line) is ∙ onto_append line all more has

pub cut_after : (after_empty : Bool) (ls rest : Lines) (more : List Lines) → cut true rest ≡ [] ∷ more
    → cut after_empty (ls ++ [] ∷ rest) ≡ cut after_empty (ls ++ [] ∷ []) ++ more
cut_after after_empty [] rest more is =
    cut_on after_empty [] rest refl ∙ ap (onto_first []) is ∙ sym (ap (λ (l : List Lines). l ++ more) (cut_on after_empty [] [] refl))
cut_after after_empty (line ∷ ls) rest more is =
    cut_by (after_empty && begins_with (codes "From ") line) line (cut (is_empty line) (ls ++ [] ∷ [])) (cut (is_empty line) (ls ++ [] ∷ rest)) more
    (has_first (is_empty line) (ls ++ [] ∷ [])) (cut_after (is_empty line) ls rest more is)

-- ---- the last bytes of what is mended

-- a text, seen from its end
abbrev Seen : List ℕ → Type 0
Seen text = (text ≡ []) ⊎ ((front : List ℕ) × (b : ℕ) × (text ≡ front ++ b ∷ []))

seen_by : (b : ℕ) (text : List ℕ) → Seen text → Seen (b ∷ text)
seen_by b text (inl is) = inr ([], b, ap (λ t. b ∷ t) is)
seen_by b text (inr found) = inr (b ∷ found.0, found.1, ap (λ t. b ∷ t) found.2)

seen : (text : List ℕ) → Seen text
seen [] = inl refl
seen (b ∷ text) = seen_by b text (seen text)

in_text_owes : (e : Ending) → IsInText e → mends e ≡ [] → ⊥
in_text_owes Empty h is = h
in_text_owes (Begun F) h is = cc
in_text_owes (Begun Fr) h is = cc
in_text_owes (Begun Fro) h is = cc
in_text_owes (Begun From) h is = cc
in_text_owes (InFromLine room []) h is = cc
in_text_owes (InFromLine room (m ∷ missing)) h is = cc
in_text_owes NoLf h is = cc
in_text_owes OneLf h is = h
in_text_owes TwoLf h is = h

last_by : (P : Ending → Type 0) (e : Ending) (b : ℕ) → ((x : Ending) → IsInText x → P x → ⊥) → P (next e b)
    → ((b == lf) ≡ true) ⊎ ((b == lf) ≡ false) → b ≡ lf
last_by P e b never is (inl same) = eqb-true b lf same
last_by P e b never is (inr other) = absurd (never (next e b) (next_in e b other) is)

-- after a line
abbrev AtLineStart : Ending → Type 0
AtLineStart OneLf = Unit {0}
AtLineStart TwoLf = Unit {0}
AtLineStart _ = ⊥

in_text_starts_none : (e : Ending) → IsInText e → AtLineStart e → ⊥
in_text_starts_none Empty h at = h
in_text_starts_none (Begun part) h at = at
in_text_starts_none (InFromLine room missing) h at = at
in_text_starts_none NoLf h at = at
in_text_starts_none OneLf h at = h
in_text_starts_none TwoLf h at = h

before_lf : (e : Ending) → mends (next e lf) ≡ [] → AtLineStart e
before_lf Empty is = cc
before_lf (Begun F) is = cc
before_lf (Begun Fr) is = cc
before_lf (Begun Fro) is = cc
before_lf (Begun From) is = cc
before_lf (InFromLine room missing) is = cc
before_lf NoLf is = cc
before_lf OneLf is = tt
before_lf TwoLf is = tt

-- it has no bytes, or its last line is empty, whatever follows
abbrev pub EndsEmpty : List ℕ → Type 0
EndsEmpty text = (text ≡ []) ⊎ ((ls : Lines) × ((more : List ℕ) → lines (text ++ more) ≡ ls ++ [] ∷ lines more))

two_ends : (text front : List ℕ) (c b : ℕ) → text ≡ (front ++ c ∷ []) ++ b ∷ [] → c ≡ lf → b ≡ lf → EndsEmpty text
two_ends text front c b is c_is b_is =
    let whole : List ℕ = front ++ lf ∷ [] in
    let same : text ≡ whole ++ lf ∷ [] = is ∙ ap (λ x. (front ++ x ∷ []) ++ b ∷ []) c_is ∙ ap (λ x. whole ++ x ∷ []) b_is in
    let ls : Lines = lines whole in
    inr (
      ls,
      λ more.
          ap (λ (t : List ℕ). lines (t ++ more)) same ∙ ap lines (append_assoc whole (lf ∷ []) more)
          ∙ ap (λ (t : List ℕ). lines (t ++ lf ∷ more)) (sym (whole_lines whole (inr (front, refl))))
          ∙ lines-with_lf ls (lf ∷ more) (lines-each whole),
    )

one_end : (text : List ℕ) (b : ℕ) → text ≡ b ∷ [] → b ≡ lf → EndsEmpty text
one_end text b is b_is = inr ([], λ more. ap (λ (t : List ℕ). lines (t ++ more)) (is ∙ ap (λ x. x ∷ []) b_is))

by_front : (e : Ending) (text front : List ℕ) (b : ℕ) → text ≡ front ++ b ∷ [] → b ≡ lf → AtLineStart (ending_from e front)
    → Seen front → EndsEmpty text
by_front e text front b is b_is at (inl none) = one_end text b (is ∙ ap (λ (t : List ℕ). t ++ b ∷ []) none) b_is
by_front e text front b is b_is at (inr found) =
    let at_next : AtLineStart (next (ending_from e found.0) found.1) =
    subst AtLineStart (ap (ending_from e) found.2 ∙ ending-append e found.0 (found.1 ∷ [])) at in
    let c_is : found.1 ≡ lf =
    last_by AtLineStart (ending_from e found.0) found.1 in_text_starts_none at_next (cases_Bool (found.1 == lf)) in
    two_ends text found.0 found.1 b (is ∙ ap (λ (t : List ℕ). t ++ b ∷ []) found.2) c_is b_is

by_text : (e : Ending) (text : List ℕ) → mends (ending_from e text) ≡ [] → Seen text → EndsEmpty text
by_text e text owes (inl none) = inl none
by_text e text owes (inr found) =
    let next_owes : mends (next (ending_from e found.0) found.1) ≡ [] =
    sym (ap (λ (t : List ℕ). mends (ending_from e t)) found.2 ∙ ap mends (ending-append e found.0 (found.1 ∷ []))) ∙ owes in
    let b_is : found.1 ≡ lf =
    last_by (λ x. mends x ≡ []) (ending_from e found.0) found.1 in_text_owes next_owes (cases_Bool (found.1 == lf)) in
    by_front e text found.0 found.1 found.2 b_is
    (before_lf (ending_from e found.0) (subst (λ b. mends (next (ending_from e found.0) b) ≡ []) b_is next_owes)) (seen found.0)

pub ends_empty : (e : Ending) (text : List ℕ) → mends (ending_from e text) ≡ [] → EndsEmpty text
ends_empty e text owes = by_text e text owes (seen text)
