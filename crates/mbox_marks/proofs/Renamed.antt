-- Marks renamed in the message as it comes, byte by byte, and in its text whose lines end with LF.
use Rattle.std.proofs.Common.{◌≡◌, ℕ, List, [], ◌∷◌, ◌++◌, Bool, true, false, cond, not, ◌&&◌, ◌==◌}
use Rattle.std.proofs.Common.{refl, sym, ap, ◌∙◌, subst, inl, inr, append-nil}
use Rattle.std.proofs.lemmas.Bool.{cases_Bool, eqb-true, or_parts, and_parts, not-true}
use Rattle.mail_world.specs.Text.{cr, lf, begins, unix}
use Rattle.mail_world.specs.Marks.{ends_field, was, is_mark, marked}
use Rattle.mail_world.proofs.Marks.{at_end, first_part, same_mark, is_mark-was, marked_from, marked_bytes}
use Rattle.mbox_marks.specs.declared.marking.Place.TheVariants.{Line, Field, Body}
use Rattle.mbox_marks.specs.Marking.{is_empty_line, renamed_from, marks_owed, is_unended}

and_false : (t : Bool) → (t && false) ≡ false
and_false true = refl
and_false false = refl

-- within a field, or at its first byte
pub renamed-field : (f l : Bool) (b : ℕ) (text : List ℕ) → ends_field b ≡ false
    → renamed_from f l (b ∷ text) ≡ cond (f && is_mark (b ∷ text)) was [] ++ (b ∷ renamed_from false false text)
renamed-field f l b text ends =
    let p = or_parts (b == lf) (b == cr) ends in
    rw (p.0, p.1, and_false l) refl

marked-field : (f l : Bool) (b : ℕ) (text : List ℕ) → ends_field b ≡ false
    → marked_from f l (b ∷ text) ≡ cond (f && is_mark (b ∷ text)) was [] ++ (b ∷ marked_from false false text)
marked-field f l b text ends =
    let p = or_parts (b == lf) (b == cr) ends in
    rw (p.0, p.1, and_false l) refl

-- ---- lines that end with CRLF

unix-part : (text : List ℕ) → first_part (unix text) ≡ first_part text
unix-part [] = refl
unix-part (b ∷ text) = elim (cases_Bool ((b == cr) && begins lf text)) [
  | inl is ↦
      let p = and_parts (b == cr) (begins lf text) is in
      rw is (at_lf text p.1 ∙ subst (λ c. [] ≡ first_part (c ∷ text)) (sym (eqb-true b cr p.0)) refl)
  | inr other ↦ rw other (ap (λ t. cond (ends_field b) [] (b ∷ t)) (unix-part text))
]
  where
    at_lf : (text : List ℕ) → begins lf text ≡ true → first_part (unix text) ≡ []
    at_lf [] e = refl
    at_lf (c ∷ text) e = subst (λ c. first_part (unix (c ∷ text)) ≡ []) (sym (eqb-true c lf e)) refl

same : (b : ℕ) (text : List ℕ) → is_mark (b ∷ unix text) ≡ is_mark (b ∷ text)
same b text = same_mark (b ∷ unix text) (b ∷ text) (ap (λ t. cond (ends_field b) [] (b ∷ t)) (unix-part text))

unix-more : (t : Bool) (b : ℕ) (text : List ℕ) → (b == cr) ≡ false → unix (cond t was [] ++ (b ∷ text)) ≡ cond t was [] ++ (b ∷ unix text)
unix-more true b text no_cr = rw no_cr refl
unix-more false b text no_cr = rw no_cr refl

-- an LF doesn't come up where there was none
begins_by : (t : Bool) (c : ℕ) (text : List ℕ) → (c == lf) ≡ false → begins lf (cond t was [] ++ (c ∷ text)) ≡ false
begins_by true c text e = refl
begins_by false c text e = e

at_lf : (f l : Bool) (text : List ℕ) → unix (renamed_from true true text) ≡ marked_from true true (unix text)
    → unix (renamed_from f l (lf ∷ text)) ≡ marked_from f l (unix (lf ∷ text))
at_lf true true text ih = refl
at_lf false true text ih = refl
at_lf true false text ih = ap (λ t. lf ∷ t) ih
at_lf false false text ih = ap (λ t. lf ∷ t) ih

-- a CR at the end
cr_last : (f l : Bool) → unix (renamed_from f l (cr ∷ [])) ≡ marked_from f l (unix (cr ∷ []))
cr_last true true = refl
cr_last true false = refl
cr_last false true = refl
cr_last false false = refl

-- one before an LF
crlf : (f l : Bool) (text : List ℕ) → unix (renamed_from true false (lf ∷ text)) ≡ marked_from true false (unix (lf ∷ text))
    → unix (renamed_from f l (cr ∷ lf ∷ text)) ≡ marked_from f l (unix (cr ∷ lf ∷ text))
crlf true true text ih = refl
crlf false true text ih = refl
crlf true false text ih = ih
crlf false false text ih = ih

-- one before another byte
renamed-cr : (f l : Bool) (c : ℕ) (text : List ℕ) → (c == lf) ≡ false → renamed_from f l (cr ∷ c ∷ text) ≡ cr ∷ renamed_from true false (c ∷ text)
renamed-cr true true c text other = rw other refl
renamed-cr false true c text other = rw other refl
renamed-cr true false c text other = refl
renamed-cr false false c text other = refl

marked-cr : (f l : Bool) (text : List ℕ) → marked_from f l (cr ∷ text) ≡ cr ∷ marked_from true false text
marked-cr true true text = refl
marked-cr false true text = refl
marked-cr true false text = refl
marked-cr false false text = refl

unix-cr : (text : List ℕ) → begins lf text ≡ false → unix (cr ∷ text) ≡ cr ∷ unix text
unix-cr text e = rw e refl

bare : (f l : Bool) (c : ℕ) (text : List ℕ) → (c == lf) ≡ false
    → unix (renamed_from true false (c ∷ text)) ≡ marked_from true false (unix (c ∷ text))
    → unix (renamed_from f l (cr ∷ c ∷ text)) ≡ marked_from f l (unix (cr ∷ c ∷ text))
bare f l c text other ih =
    ap unix (renamed-cr f l c text other)
    ∙ unix-cr (renamed_from true false (c ∷ text)) (begins_by (is_mark (c ∷ text)) c _ other)
    ∙ ap (λ t. cr ∷ t) ih
    ∙ sym (marked-cr f l (unix (c ∷ text)))
    ∙ ap (marked_from f l) (sym (unix-cr (c ∷ text) other))

at_cr : (f l : Bool) (text : List ℕ) → ((f l : Bool) → unix (renamed_from f l text) ≡ marked_from f l (unix text))
    → unix (renamed_from f l (cr ∷ text)) ≡ marked_from f l (unix (cr ∷ text))
at_cr f l [] ih = cr_last f l
at_cr f l (c ∷ text) ih = elim (cases_Bool (c == lf)) [
  | inl is ↦
      let e = eqb-true c lf is in
      subst (λ c. unix (renamed_from f l (cr ∷ c ∷ text)) ≡ marked_from f l (unix (cr ∷ c ∷ text))) (sym e)
      (crlf f l text (subst (λ c. unix (renamed_from true false (c ∷ text)) ≡ marked_from true false (unix (c ∷ text))) e (ih true false)))
  | inr other ↦ bare f l c text other (ih true false)
]

in_field : (f l : Bool) (b : ℕ) (text : List ℕ) → ends_field b ≡ false
    → unix (renamed_from false false text) ≡ marked_from false false (unix text)
    → unix (renamed_from f l (b ∷ text)) ≡ marked_from f l (unix (b ∷ text))
in_field f l b text ends ih =
    let no_cr = (or_parts (b == lf) (b == cr) ends).1 in
    let plain : unix (b ∷ text) ≡ b ∷ unix text = rw no_cr refl in
    ap unix (renamed-field f l b text ends)
    ∙ unix-more (f && is_mark (b ∷ text)) b (renamed_from false false text) no_cr
    ∙ ap (λ t. cond (f && is_mark (b ∷ text)) was [] ++ (b ∷ t)) ih
    ∙ ap (λ t. cond (f && t) was [] ++ (b ∷ marked_from false false (unix text))) (sym (same b text))
    ∙ sym (marked-field f l b (unix text) ends)
    ∙ ap (marked_from f l) (sym plain)

pub unix-renamed : (f l : Bool) (text : List ℕ) → unix (renamed_from f l text) ≡ marked_from f l (unix text)
unix-renamed f l [] = refl
unix-renamed f l (b ∷ text) = elim (cases_Bool (ends_field b)) [
  | inl ends ↦
      at_end (λ b. unix (renamed_from f l (b ∷ text)) ≡ marked_from f l (unix (b ∷ text))) b ends
      (at_lf f l text (unix-renamed true true text)) (at_cr f l text (λ f l. unix-renamed f l text))
  | inr within ↦ in_field f l b text within (unix-renamed false false text)
]

-- what a writer that begins owes
pub stored_by : (t : Bool) (text : List ℕ) → unix (marks_owed (cond t Line Body) text) ≡ cond t (marked (unix text)) (unix text)
stored_by true text = unix-renamed true true text ∙ sym (marked_bytes (unix text))
stored_by false text = refl

-- ---- steps

-- within a field no byte changes
pub unended_run : (run rest : List ℕ) → is_unended run ≡ true → renamed_from false false (run ++ rest) ≡ run ++ renamed_from false false rest
unended_run [] rest h = refl
unended_run (b ∷ run) rest h =
    let p = and_parts (not (ends_field b)) (is_unended run) h in
    renamed-field false false b (run ++ rest) (not-true (ends_field b) p.0) ∙ ap (λ t. b ∷ t) (unended_run run rest p.1)

pub unended_stays : (run : List ℕ) → is_unended run ≡ true → renamed_from false false run ≡ run
unended_stays run h =
    ap (renamed_from false false) (sym (append-nil run)) ∙ unended_run run [] h ∙ append-nil run

-- up to the end of a field
pub place_rest : (t : Bool) (text : List ℕ) → marks_owed (cond t Line Field) text ≡ renamed_from true t text
place_rest true text = refl
place_rest false text = refl

pub field_ends : (b : ℕ) (text : List ℕ) → ends_field b ≡ true → renamed_from false false (b ∷ text) ≡ b ∷ renamed_from true (b == lf) text
field_ends b text e = at_end (λ b. renamed_from false false (b ∷ text) ≡ b ∷ renamed_from true (b == lf) text) b e refl refl

-- at a field's beginning
pub field_first : (text : List ℕ) → renamed_from true false text ≡ cond (is_mark text) was [] ++ renamed_from false false text
field_first [] = refl
field_first (b ∷ text) = refl

was_by : (t : Bool) (text : List ℕ) → cond t was [] ++ (was ++ text) ≡ was ++ (cond t was [] ++ text)
was_by true text = refl
was_by false text = refl

pub after_was : (text : List ℕ) → was ++ renamed_from true false text ≡ renamed_from true false (was ++ text)
after_was text =
    ap (λ t. was ++ t) (field_first text)
    ∙ sym (was_by (is_mark text) (renamed_from false false text))
    ∙ ap (λ t. cond t was [] ++ (was ++ renamed_from false false text)) (sym (is_mark-was text))
    ∙ sym (field_first (was ++ text))

-- at a line's beginning
pub line_first : (text : List ℕ) → is_empty_line text ≡ false → renamed_from true true text ≡ renamed_from true false text
line_first [] e = refl
line_first (b ∷ text) e = rw e refl

pub head_ends : (text : List ℕ) → is_empty_line text ≡ true → renamed_from true true text ≡ text
head_ends [] e = refl
head_ends (b ∷ text) e = rw e refl
