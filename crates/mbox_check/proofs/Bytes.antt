-- What comes of a byte.
use Rattle.std.proofs.Common.{◌≡◌, ◌⊎◌, inl, inr, ℕ, suc, ◌+◌, arith, Bool, true, false, cond, ◌==◌, List, [], ◌∷◌, ◌++◌, length, Option, Some, None, sym, ap, subst, ◌∙◌, refl}
use Rattle.std.proofs.Common.{append_assoc, append-nil}
use Rattle.std.specs.Prelude.{codes}
use Rattle.std.proofs.lemmas.Bool.{eqb-true}
use Rattle.std.proofs.lemmas.List.{length-append}
use Rattle.mail_world.specs.Counts.{counted}
use Rattle.mail_world.specs.Malformed.{nul}
use Rattle.mail_world.specs.Text.{lf, IsOneLine}
use Rattle.mail_world.specs.Reading.{Letter, AreLetters, written}
use Rattle.mail_world.proofs.OneLine.{one_line-cons, one_line-append, literal}
use Rattle.mbox_letters.specs.Letters.{is_boundary}
use Rattle.mbox_check.specs.declared.state.Part.{Part}
use Rattle.mbox_check.specs.declared.state.Part.TheVariants.{Nothing, F, Fr, Fro, From}
use Rattle.mbox_check.specs.declared.state.FormState.{FormState}
use Rattle.mbox_check.specs.declared.state.FormState.TheVariants.{Start, Open, Line, Inside}
use Rattle.mbox_check.specs.declared.state.Effect.{Effect}
use Rattle.mbox_check.specs.declared.state.Effect.TheVariants.{To, Begin, Break}
use Rattle.mbox_check.specs.Form.{counted_start, BreaksAt, IsBad}
use Rattle.mbox_check.specs.States.{part_text, next_byte, longer_part, is_nothing, line_state, start_with, open_with, line_with, effect_at, bad_at}
use Rattle.mbox_check.specs.SoFar.{EndsInLine, Begun, IsBody, IsOpen, IsLine, IsInsideLine, EndsAt}
use Rattle.mbox_letters.proofs.Mailboxes.{boundary-letters}
use Rattle.mbox_check.proofs.Bodies.{ends_after, line_ends, length-push, body_line, body_ended, body_first}
use Rattle.mbox_check.proofs.Begins.{part_one, part_grown, part_else, ends_in_part, IsStarted, open_started, line_started, started_begins, started_line}
use Rattle.mbox_check.proofs.Breaks.{start_breaks, start_breaks_at, line_breaks, line_breaks_at}

-- the text with the byte
abbrev pub LeadsTo : FormState → List ℕ → Begun → ℕ → Effect → Type 0
LeadsTo from text n b (To state) = EndsAt (text ++ b ∷ []) n state
LeadsTo from text n b Begin = (s : ℕ) × (length text ≡ s + 4) × EndsAt (text ++ b ∷ []) (record { count = suc n.count; start = s }) Inside
LeadsTo from text n b Break =
    (more : List ℕ) (taken letters start : ℕ) → taken ≡ counted (length text) → letters ≡ counted n.count → start ≡ counted_start n.start
    → IsBad (text ++ b ∷ more) (bad_at from taken letters start) × BreaksAt (text ++ b ∷ more) (length text)

-- ---- a letter begins

letter_begins : (text start : List ℕ) (n : ℕ) (letters : List Letter) → AreLetters letters → start ≡ written letters → n ≡ length letters
    → text ≡ start ++ codes "From "
    → IsInsideLine text (record { count = suc n; start = length start })
letter_begins text start n letters are e count whole = record {
  ends = subst EndsInLine (sym whole) (ends_after start (codes "From ") (record { prefix = codes "From"; last = 32; whole = refl; other = refl }));
  begins = λ more.
      ap is_boundary (ap (λ (l : List ℕ). l ++ more) (whole ∙ ap (λ (l : List ℕ). l ++ codes "From ") e) ∙ append_assoc (written letters) (codes "From ") more)
      ∙ boundary-letters letters (codes "From " ++ more) refl;
  goes = λ more one.
      let same : text ++ (more ++ lf ∷ []) ≡ start ++ (codes "From " ++ (more ++ lf ∷ [])) =
      ap (λ (l : List ℕ). l ++ (more ++ lf ∷ [])) whole ∙ append_assoc start (codes "From ") (more ++ lf ∷ []) in
      let body = body_first start letters more are e one in record {
        letters = body.letters;
        are = body.are;
        count = ap (λ k. suc k) count ∙ body.count;
        starts = ap (λ (l : List ℕ). length l) e ∙ body.starts;
        head = body.head;
        headed = body.headed;
        ls = body.ls;
        one = body.one;
        whole = same ∙ body.whole;
      };
}

-- four bytes of `From ` stand before its last
four_before : (text start : List ℕ) (b : ℕ) → text ++ b ∷ [] ≡ start ++ codes "From " → length text ≡ length start + 4
four_before text start b e =
    let same : length (text ++ b ∷ []) ≡ length (start ++ codes "From ") = ap (λ (l : List ℕ). length l) e in
    let left : length (text ++ b ∷ []) ≡ length text + 1 = length-append text (b ∷ []) in
    let right : length (start ++ codes "From ") ≡ length start + 5 = length-append start (codes "From ") in omega arith

letter_leads : (from : FormState) (text start : List ℕ) (n : Begun) (b : ℕ) (letters : List Letter) → AreLetters letters → start ≡ written letters
    → n.count ≡ length letters → text ++ b ∷ [] ≡ start ++ codes "From "
    → LeadsTo from text n b Begin
letter_leads from text start n b letters are e count whole =
    (length start, four_before text start b whole, letter_begins (text ++ b ∷ []) start n.count letters are e count whole)

-- ---- inside a line

pub inside_more : (text : List ℕ) (n : Begun) (b : ℕ) (piece : List ℕ) → IsInsideLine text n → IsOneLine (b ∷ piece) → IsInsideLine (text ++ b ∷ piece) n
inside_more text n b piece i one = record {
  ends = ends_after text (b ∷ piece) (line_ends b piece one);
  begins = λ more. ap is_boundary (append_assoc text (b ∷ piece) more) ∙ i.begins (b ∷ (piece ++ more));
  goes = λ more h.
      subst (λ (l : List ℕ). IsBody l n)
      (ap (λ (l : List ℕ). text ++ l) (append_assoc (b ∷ piece) more (lf ∷ [])) ∙ sym (append_assoc text (b ∷ piece) (more ++ lf ∷ [])))
      (i.goes (b ∷ (piece ++ more)) (one_line-append (b ∷ piece) more one h));
}

pub inside_lf : (text : List ℕ) (n : Begun) → IsInsideLine text n → IsLine (text ++ lf ∷ []) n Nothing
inside_lf text n i = record { before = text; ends = i.ends; body = i.goes [] (literal [] refl); whole = sym (append-nil (text ++ lf ∷ [])) }

inside_byte : (text : List ℕ) (n : Begun) (b : ℕ) → IsInsideLine text n → (t : Bool) → (b == lf) ≡ t → LeadsTo Inside text n b (cond t (To (Line Nothing)) (To Inside))
inside_byte text n b i true e = subst (λ c. IsLine (text ++ c ∷ []) n Nothing) (sym (eqb-true b lf e)) (inside_lf text n i)
inside_byte text n b i false e = inside_more text n b [] i (one_line-cons b [] e (literal [] refl))

-- ---- in a line that may be free

-- after an empty line, or after one that isn't
started_line_lf : (part : Part) (text : List ℕ) (n : Begun) → IsStarted text n part → is_nothing part ≡ false → IsLine (text ++ lf ∷ []) n Nothing
started_line_lf part text n s e = record {
  before = text;
  ends = ends_in_part part text s.start s.whole e;
  body = started_line text n part s;
  whole = sym (append-nil (text ++ lf ∷ []));
}

started_lf : (part : Part) (text : List ℕ) (n : Begun) → IsStarted text n part → EndsAt (text ++ lf ∷ []) n (cond (is_nothing part) (Open Nothing) (Line Nothing))
started_lf Nothing text n s = record {
  before = text;
  body = subst (λ (l : List ℕ). IsBody l n) (sym (s.whole ∙ append-nil s.start)) s.body;
  whole = sym (append-nil (text ++ lf ∷ []));
}
started_lf F text n s = started_line_lf F text n s refl
started_lf Fr text n s = started_line_lf Fr text n s refl
started_lf Fro text n s = started_line_lf Fro text n s refl
started_lf From text n s = started_line_lf From text n s refl

started_else : (part : Part) (text : List ℕ) (n : Begun) (b : ℕ) → IsStarted text n part → (next_byte part == b) ≡ false → (b == lf) ≡ false
    → IsInsideLine (text ++ b ∷ []) n
started_else part text n b s e f = record {
  ends = record { prefix = text; last = b; whole = refl; other = f };
  begins = λ more. ap is_boundary (append_assoc text (b ∷ []) more) ∙ started_begins text n part (b ∷ more) s;
  goes = λ more one.
      let line : List ℕ = part_text part ++ b ∷ more in
      subst (λ (l : List ℕ). IsBody l n)
      (
      ap (λ (l : List ℕ). s.start ++ l) (append_assoc (part_text part) (b ∷ more) (lf ∷ []))
      ∙ sym (append_assoc s.start (part_text part) (b ∷ (more ++ lf ∷ [])))
      ∙ ap (λ (l : List ℕ). l ++ b ∷ (more ++ lf ∷ [])) (sym s.whole)
      ∙ sym (append_assoc text (b ∷ []) (more ++ lf ∷ []))
      )
      (body_line s.start n line s.body (one_line-append (part_text part) (b ∷ more) (part_one part) (one_line-cons b more f one)) (part_else part b more e));
}

started_byte : (part : Part) (text : List ℕ) (n : Begun) (b : ℕ) → IsStarted text n part → (next_byte part == b) ≡ false → (t : Bool) → (b == lf) ≡ t
    → EndsAt (text ++ b ∷ []) n (cond t (cond (is_nothing part) (Open Nothing) (Line Nothing)) Inside)
started_byte part text n b s e true f =
    subst (λ c. EndsAt (text ++ c ∷ []) n (cond (is_nothing part) (Open Nothing) (Line Nothing))) (sym (eqb-true b lf f)) (started_lf part text n s)
started_byte part text n b s e false f = started_else part text n b s e f

-- ---- in each state

start_option : (part : Part) (text : List ℕ) (n : Begun) (b : ℕ) → EndsAt text n (Start part) → next_byte part ≡ b → (o : Option Part) → longer_part part ≡ o
    → LeadsTo (Start part) text n b (start_with o)
start_option part text n b at e (Some more) f = (at.0, part_grown part text [] b (Some more) at.1 e f)
start_option part text n b at e None f = letter_leads (Start part) text [] n b [] tt refl at.0 (part_grown part text [] b None at.1 e f)

start_byte : (part : Part) (text : List ℕ) (n : Begun) (b : ℕ) → EndsAt text n (Start part) → (t : Bool) → (next_byte part == b) ≡ t
    → LeadsTo (Start part) text n b (cond t (start_with (longer_part part)) Break)
start_byte part text n b at true e = start_option part text n b at (eqb-true (next_byte part) b e) (longer_part part) refl
start_byte part text n b at false e = λ more taken letters start t c s. (start_breaks part text more n b taken t at e, start_breaks_at part text more n b at e)

open_option : (part : Part) (text : List ℕ) (n : Begun) (b : ℕ) → IsOpen text n part → next_byte part ≡ b → (o : Option Part) → longer_part part ≡ o
    → LeadsTo (Open part) text n b (open_with o)
open_option part text n b at e (Some more) f =
    record { before = at.before; body = at.body; whole = part_grown part text (at.before ++ lf ∷ []) b (Some more) at.whole e f }
open_option part text n b at e None f =
    let ended = body_ended at.before n at.body in
    letter_leads (Open part) text (at.before ++ lf ∷ []) n b (ended.before ++ ended.last ∷ []) ended.is.are (sym ended.is.whole)
    (ended.count ∙ sym (length-push ended.before ended.last))
    (part_grown part text (at.before ++ lf ∷ []) b None at.whole e f)

open_byte : (part : Part) (text : List ℕ) (n : Begun) (b : ℕ) → IsOpen text n part → (t : Bool) → (next_byte part == b) ≡ t
    → LeadsTo (Open part) text n b (cond t (open_with (longer_part part)) (To (line_state part b)))
open_byte part text n b at true e = open_option part text n b at (eqb-true (next_byte part) b e) (longer_part part) refl
open_byte part text n b at false e = started_byte part text n b (open_started text n part at) e (b == lf) refl

line_option : (part : Part) (text : List ℕ) (n : Begun) (b : ℕ) → IsLine text n part → next_byte part ≡ b → (o : Option Part) → longer_part part ≡ o
    → LeadsTo (Line part) text n b (line_with o)
line_option part text n b at e (Some more) f =
    record { before = at.before; ends = at.ends; body = at.body; whole = part_grown part text (at.before ++ lf ∷ []) b (Some more) at.whole e f }
line_option part text n b at e None f = λ more taken letters start t c s.
    (line_breaks part text more n b taken letters start t c s at e f, line_breaks_at part text more n b at e f)

line_byte : (part : Part) (text : List ℕ) (n : Begun) (b : ℕ) → IsLine text n part → (t : Bool) → (next_byte part == b) ≡ t
    → LeadsTo (Line part) text n b (cond t (line_with (longer_part part)) (To (line_state part b)))
line_byte part text n b at true e = line_option part text n b at (eqb-true (next_byte part) b e) (longer_part part) refl
line_byte part text n b at false e = started_byte part text n b (line_started text n part at) e (b == lf) refl

pub byte_leads : (state : FormState) (text : List ℕ) (n : Begun) (b : ℕ) → EndsAt text n state → LeadsTo state text n b (effect_at state b)
byte_leads (Start part) text n b at = start_byte part text n b at (next_byte part == b) refl
byte_leads (Open part) text n b at = open_byte part text n b at (next_byte part == b) refl
byte_leads (Line part) text n b at = line_byte part text n b at (next_byte part == b) refl
byte_leads Inside text n b at = inside_byte text n b at (b == lf) refl

-- ---- a NUL

nul_next : (part : Part) → (next_byte part == nul) ≡ false
nul_next Nothing = refl
nul_next F = refl
nul_next Fr = refl
nul_next Fro = refl
nul_next From = refl

-- it begins no letter, and where it doesn't break the form it stands inside a line
pub nul_leads : (from : FormState) → (effect_at from nul ≡ Break) ⊎ (effect_at from nul ≡ To Inside)
nul_leads (Start part) = inl (rw (nul_next part) refl)
nul_leads (Open part) = inr (rw (nul_next part) refl)
nul_leads (Line part) = inr (rw (nul_next part) refl)
nul_leads Inside = inr refl
