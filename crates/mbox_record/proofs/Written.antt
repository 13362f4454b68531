-- A piece of the message, mark by mark.
use Rattle.std.proofs.Common.{◌≡◌, ℕ, ◌-◌, ◌<◌, ◌≤◌, arith, Bool, true, false, cond, List, [], ◌∷◌, ◌++◌, length, take, drop, sym, ap, ◌∙◌, refl, append_assoc, append-nil, slice_index_or}
use Rattle.std.proofs.lemmas.List.{take_rest}
use Rattle.mail_world.specs.Text.{lf, unix}
use Rattle.mail_world.specs.Records.{quoted_text}
use Rattle.mail_world.specs.Marks.{was, marked}
use Rattle.mbox_spool.specs.Spool.{SpoolState, SpoolFailed}
use Rattle.mbox_marks.specs.declared.marking.Place.TheVariants.{Line, Inside, Body}
use Rattle.mbox_marks.specs.declared.marking.Found.{Found}
use Rattle.mbox_spool.specs.Quoted.{Pending, quoted_owed}
use Rattle.mbox_marks.specs.Marking.{Place, marks_owed}
use Rattle.mbox_marks.specs.Marked.{FindsMark, MayBeHeld}
use Rattle.mbox_spool.specs.Writing.{Writes, Fails}
use Rattle.mbox_record.specs.Writing.{Writer, IsWriter, bytes_owed}
use Rattle.mbox_spool.proofs.Taken.{SpoolFailed-first, SpoolFailed-later, SpoolFailed-as}
use Rattle.mbox_marks.proofs.Renamed.{stored_by}
use Rattle.mbox_record.proofs.Onward.{Writes-on, Fails-on, Writes-then, Fails-then}

pub Writes-none : (s : SpoolState) (f : List ℕ → List ℕ) → Writes s s f f
Writes-none s f = record {
  text = [];
  taken = record {
    appended = sym (append-nil s.bytes);
    sound = refl;
    limited = refl;
    covered = refl;
    turn = refl;
  };
  goes = λ rest. refl;
}

pub Writes-as : (s t : SpoolState) (f g h : List ℕ → List ℕ) → Writes s t f g → ((rest : List ℕ) → h rest ≡ g rest) → Writes s t f h
Writes-as s t f g h x e = record {
  text = x.text;
  taken = x.taken;
  goes = λ rest. ap (λ (l : List ℕ). x.text ++ l) (e rest) ∙ x.goes rest;
}

-- what is owed once it is known what comes first: the bytes up to a mark, `X-Was-`, and what follows
abbrev pub mark_owed : Found → List ℕ → List ℕ → List ℕ
mark_owed found rest more = cond found.is_mark was [] ++ marks_owed found.place (drop found.at rest ++ more)

-- The spool took what is sure of the bytes up to the rest, and of that it is known what comes first.
pub record HasWritten (old new : SpoolState) (first : Pending) (place : Place) (bytes : List ℕ) (quoted : Pending) (rest : List ℕ) (found : Found) : Type 0 where
  pub writes : Writes old new (λ more. quoted_owed first (marks_owed place (bytes ++ more)))
      (λ more. quoted_owed quoted (take found.at rest ++ mark_owed found rest more))
  pub within : found.at ≤ length rest
  pub held : found.is_mark ≡ false → MayBeHeld found.place (drop found.at rest)
  pub inside : found.is_mark ≡ true → found.place ≡ Inside

module _ (s t : SpoolState) (first : Pending) (place : Place) (bytes : List ℕ) where
  -- the rest was looked at
  pub has_found : (quoted : Pending) (at : Place) (rest : List ℕ) (found : Found)
      → Writes s t (λ more. quoted_owed first (marks_owed place (bytes ++ more))) (λ more. quoted_owed quoted (marks_owed at (rest ++ more)))
      → FindsMark at rest found → HasWritten s t first place bytes quoted rest found
  has_found quoted at rest found x y = record {
    writes = Writes-as s t _ _ _ x (λ more. ap (quoted_owed quoted) (y.goes more));
    within = y.within;
    held = y.held;
    inside = y.inside;
  }

pub begins : (s : SpoolState) (first : Pending) (place : Place) (bytes : List ℕ) (found : Found) → FindsMark place bytes found
    → HasWritten s s first place bytes first bytes found
begins s first place bytes found y =
    has_found s s first place bytes first place bytes found (Writes-none s (λ more. quoted_owed first (marks_owed place (bytes ++ more)))) y

module _ (s t u : SpoolState) (first : Pending) (place : Place) (bytes : List ℕ) (quoted : Pending) (rest : List ℕ) (found : Found)
    (x : HasWritten s t first place bytes quoted rest found) where
  abbrev before : List ℕ → List ℕ
  before more = quoted_owed first (marks_owed place (bytes ++ more))

  -- the bytes up to it
  pub up_to : (next : Pending) → Writes t u (λ more. quoted_owed quoted (take found.at rest ++ more)) (quoted_owed next)
      → Writes s u before (λ more. quoted_owed next (mark_owed found rest more))
  up_to next y =
      Writes-on s t u before quoted (take found.at rest) (λ more. take found.at rest ++ mark_owed found rest more) (mark_owed found rest) x.writes
      (λ more. refl) next y

  pub up_to_fails : Fails t u (λ more. quoted_owed quoted (take found.at rest ++ more)) → Fails s u before
  up_to_fails y =
      Fails-on s t u before quoted (take found.at rest) (λ more. take found.at rest ++ mark_owed found rest more) (mark_owed found rest) x.writes
      (λ more. refl) y

  -- and what is held back
  pub holds : (next : Pending) → found.is_mark ≡ false → Writes s u before (λ more. quoted_owed next (mark_owed found rest more))
      → (writer : Writer) → writer.quoted ≡ next → writer.place ≡ found.place → writer.held ≡ drop found.at rest
      → Writes s u before (bytes_owed writer)
  holds next none y writer a b c =
      Writes-as s u before _ (bytes_owed writer) y (λ more. rw (none, a, b, c) refl)

module _ (s u v : SpoolState) (first : Pending) (place : Place) (bytes : List ℕ) (next : Pending) (rest : List ℕ) (found : Found)
    (x : Writes s u (λ more. quoted_owed first (marks_owed place (bytes ++ more))) (λ more. quoted_owed next (mark_owed found rest more)))
    (mark : found.is_mark ≡ true) (inside : found.place ≡ Inside) where
  owed_was : (more : List ℕ) → mark_owed found rest more ≡ was ++ marks_owed Inside (drop found.at rest ++ more)
  owed_was more = rw (mark, inside) refl

  pub with_was : (last : Pending) → Writes u v (λ more. quoted_owed next (was ++ more)) (quoted_owed last)
      → Writes s v (λ more. quoted_owed first (marks_owed place (bytes ++ more))) (λ more. quoted_owed last (marks_owed Inside (drop found.at rest ++ more)))
  with_was last y =
      Writes-on s u v (λ more. quoted_owed first (marks_owed place (bytes ++ more))) next was (mark_owed found rest)
      (λ more. marks_owed Inside (drop found.at rest ++ more)) x owed_was last y

  pub with_was_fails : Fails u v (λ more. quoted_owed next (was ++ more)) → Fails s v (λ more. quoted_owed first (marks_owed place (bytes ++ more)))
  with_was_fails y =
      Fails-on s u v (λ more. quoted_owed first (marks_owed place (bytes ++ more))) next was (mark_owed found rest)
      (λ more. marks_owed Inside (drop found.at rest ++ more)) x owed_was y

-- the rest is looked at as a slice
pub looks_on : (s t : SpoolState) (first : Pending) (place : Place) (bytes : List ℕ) (quoted : Pending) (rest : List ℕ) (at : ℕ) (found : Found)
    → Writes s t (λ more. quoted_owed first (marks_owed place (bytes ++ more))) (λ more. quoted_owed quoted (marks_owed Inside (drop at rest ++ more)))
    → FindsMark Inside (take (length rest - at) (drop at rest)) found
    → HasWritten s t first place bytes quoted (take (length rest - at) (drop at rest)) found
looks_on s t first place bytes quoted rest at found x y =
    has_found s t first place bytes quoted Inside (take (length rest - at) (drop at rest)) found
    (Writes-as s t _ _ _ x (λ more. ap (λ (l : List ℕ). quoted_owed quoted (marks_owed Inside (l ++ more))) (take_rest rest at))) y

-- ---- bytes that were held back

-- one more byte is held back
pub one_more : (s t : SpoolState) (f : List ℕ → List ℕ) (writer view : Writer) (rest : List ℕ) (held : List ℕ) → writer ≡ view
    → 0 < length rest → held ≡ writer.held ++ slice_index_or rest 0 0 ∷ []
    → Writes s t f (λ more. bytes_owed view (rest ++ more))
    → Writes s t f (λ more. quoted_owed writer.quoted (marks_owed writer.place (held ++ (drop 1 rest ++ more))))
one_more s t f writer view [] held is some e x = absurd (omega arith)
one_more s t f writer view (b ∷ rest) held is some e x =
    Writes-as s t f _ _ x (λ more.
    ap (λ (l : List ℕ). quoted_owed writer.quoted (marks_owed writer.place (l ++ (rest ++ more)))) e
    ∙ ap (λ (l : List ℕ). quoted_owed writer.quoted (marks_owed writer.place l)) (append_assoc writer.held (b ∷ []) (rest ++ more))
    ∙ ap (λ (w : Writer). bytes_owed w (b ∷ rest ++ more)) is)

-- then it is written, with what stood before it
pub writes_held : (s t u : SpoolState) (f : List ℕ → List ℕ) (quoted : Pending) (place : Place) (held rest : List ℕ) (next : Writer)
    → Writes s t f (λ more. quoted_owed quoted (marks_owed place (held ++ (rest ++ more))))
    → Writes t u (λ more. quoted_owed quoted (marks_owed place (held ++ more))) (bytes_owed next)
    → Writes s u f (λ more. bytes_owed next (rest ++ more))
writes_held s t u f quoted place held rest next x y =
    Writes-then s t u f _ (λ more. bytes_owed next (rest ++ more)) x
    (record { text = y.text; taken = y.taken; goes = λ more. y.goes (rest ++ more) })

pub fails_held : (s t u : SpoolState) (f : List ℕ → List ℕ) (quoted : Pending) (place : Place) (held rest : List ℕ)
    → Writes s t f (λ more. quoted_owed quoted (marks_owed place (held ++ (rest ++ more))))
    → Fails t u (λ more. quoted_owed quoted (marks_owed place (held ++ more))) → Fails s u f
fails_held s t u f quoted place held rest x y =
    Fails-then s t u f _ x (record { text = y.text; failed = y.failed; sure = λ more. y.sure (rest ++ more) })

-- the next of the rest, as a slice gives it
pub next_rest : (s t : SpoolState) (f : List ℕ → List ℕ) (writer : Writer) (rest : List ℕ) (n : ℕ)
    → Writes s t f (λ more. bytes_owed writer (drop n rest ++ more))
    → Writes s t f (λ more. bytes_owed writer (take (length rest - n) (drop n rest) ++ more))
next_rest s t f writer rest n x =
    Writes-as s t f _ _ x (λ more. ap (λ (l : List ℕ). bytes_owed writer (l ++ more)) (take_rest rest n))

-- nothing is held back
pub none_held : (s t : SpoolState) (f : List ℕ → List ℕ) (writer view : Writer) (rest : List ℕ) → writer ≡ view → length writer.held ≡ 0
    → Writes s t f (λ more. bytes_owed view (rest ++ more))
    → Writes s t f (λ more. quoted_owed writer.quoted (marks_owed writer.place (rest ++ more)))
none_held s t f writer view rest is none x =
    Writes-as s t f _ _ x (λ more.
    ap (λ (l : List ℕ). quoted_owed writer.quoted (marks_owed writer.place (l ++ (rest ++ more)))) (sym (empty writer.held none))
    ∙ ap (λ (w : Writer). bytes_owed w (rest ++ more)) is)
  where
    empty : (l : List ℕ) → length l ≡ 0 → l ≡ []
    empty [] e = refl
    empty (b ∷ l) e = absurd (omega (arith, e))

-- the end of the message: what is held back stays as it is
module _ (writer view : Writer) (is : writer ≡ view) (h : IsWriter writer) (s t u : SpoolState) where
  owed_last : bytes_owed view [] ≡ quoted_owed writer.quoted (writer.held ++ [])
  owed_last =
      ap (λ (w : Writer). bytes_owed w []) (sym is)
      ∙ ap (quoted_owed writer.quoted) (ap (marks_owed writer.place) (append-nil writer.held) ∙ h.whole ∙ sym (append-nil writer.held))

  pub owed_parts : (next : Pending) (x : Writes s t (λ more. quoted_owed writer.quoted (writer.held ++ more)) (quoted_owed next))
      → bytes_owed view [] ++ lf ∷ [] ≡ x.text ++ (quoted_owed next [] ++ lf ∷ [])
  owed_parts next x =
      ap (λ (l : List ℕ). l ++ lf ∷ []) (owed_last ∙ sym (x.goes []))
      ∙ append_assoc x.text (quoted_owed next []) (lf ∷ [])

  pub end_fails : (next : Pending) → Writes s t (λ more. quoted_owed writer.quoted (writer.held ++ more)) (quoted_owed next)
      → SpoolFailed t u (quoted_owed next [] ++ lf ∷ []) → SpoolFailed s u (bytes_owed view [] ++ lf ∷ [])
  end_fails next x y =
      SpoolFailed-as s u _ _ (owed_parts next x) (SpoolFailed-later s t u x.text (quoted_owed next [] ++ lf ∷ []) x.taken y)

  pub held_fails : Fails s t (λ more. quoted_owed writer.quoted (writer.held ++ more)) → SpoolFailed s t (bytes_owed view [] ++ lf ∷ [])
  held_fails x =
      let prefix = x.sure [] in
      let whole : bytes_owed view [] ++ lf ∷ [] ≡ x.text ++ (prefix.rest ++ lf ∷ []) =
      ap (λ (l : List ℕ). l ++ lf ∷ []) (owed_last ∙ prefix.whole) ∙ append_assoc x.text prefix.rest (lf ∷ []) in
      SpoolFailed-as s t _ _ whole (SpoolFailed-first s t x.text (prefix.rest ++ lf ∷ []) x.failed)

-- a writer that begins
pub begins_record : (quoted : Pending) (place : Place) (held : List ℕ) (renames : Bool)
    → ((text : List ℕ) → quoted_owed quoted text ≡ quoted_text (unix text))
    → place ≡ cond renames Line Body → held ≡ []
    → (text : List ℕ) → quoted_owed quoted (marks_owed place (held ++ text)) ≡ quoted_text (cond renames (marked (unix text)) (unix text))
begins_record quoted place held renames new is none text =
    ap (λ (h : List ℕ). quoted_owed quoted (marks_owed place (h ++ text))) none
    ∙ ap (λ (p : Place). quoted_owed quoted (marks_owed p text)) is
    ∙ new (marks_owed (cond renames Line Body) text)
    ∙ ap quoted_text (stored_by renames text)
