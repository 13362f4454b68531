-- What holds in each state: a mailbox begins with the text, and where it isn't one.
use Rattle.std.proofs.Common.{◌≡◌, ℕ, true, false, ◌==◌, List, [], ◌∷◌, ◌++◌, Option, Some, None, sym, ap, subst, ◌∙◌, refl, append_assoc, append-nil}
use Rattle.std.proofs.Common.{true≢false}
use Rattle.std.specs.Prelude.{codes}
use Rattle.mail_world.specs.Text.{lf, IsOneLine}
use Rattle.mail_world.specs.Reading.{Letter, AreLetters, written}
use Rattle.mail_world.proofs.OneLine.{literal}
use Rattle.mbox_letters.specs.Letters.{is_boundary}
use Rattle.mbox_letters.proofs.Bodies.{begins_from}
use Rattle.mbox_check.specs.declared.state.Part.{Part}
use Rattle.mbox_check.specs.declared.state.Part.TheVariants.{Nothing, F, Fr, Fro, From}
use Rattle.mbox_check.specs.declared.state.FormState.{FormState}
use Rattle.mbox_check.specs.declared.state.FormState.TheVariants.{Start, Open, Line, Inside}
use Rattle.mbox_check.specs.Form.{IsMailboxOf, BeginsMailbox}
use Rattle.mbox_check.specs.States.{part_text, next_byte, longer_part, is_nothing, is_whole}
use Rattle.mbox_check.specs.SoFar.{EndsInLine, Begun, IsBody, IsOpen, IsLine, IsInsideLine, EndsAt}
use Rattle.mbox_check.proofs.Bodies.{ends_after, text_short, line_short, body_line, body_ended, body_first, body_begins, begins_shorter, body_begins_mailbox}

-- ---- parts of `From `

pub part_one : (part : Part) → IsOneLine (part_text part)
part_one Nothing = literal [] refl
part_one F = literal (codes "F") refl
part_one Fr = literal (codes "Fr") refl
part_one Fro = literal (codes "Fro") refl
part_one From = literal (codes "From") refl

pub part_plain : (part : Part) → begins_from (part_text part) ≡ false
part_plain Nothing = refl
part_plain F = refl
part_plain Fr = refl
part_plain Fro = refl
part_plain From = refl

abbrev missing : Part → List ℕ
missing Nothing = codes "From "
missing F = codes "rom "
missing Fr = codes "om "
missing Fro = codes "m "
missing From = codes " "

part_whole : (part : Part) → part_text part ++ (missing part ++ lf ∷ []) ≡ codes "From " ++ lf ∷ []
part_whole Nothing = refl
part_whole F = refl
part_whole Fr = refl
part_whole Fro = refl
part_whole From = refl

-- the part with its next byte
abbrev pub text_of : Option Part → List ℕ
text_of (Some part) = part_text part
text_of None = codes "From "

part_longer : (part : Part) → part_text part ++ next_byte part ∷ [] ≡ text_of (longer_part part)
part_longer Nothing = refl
part_longer F = refl
part_longer Fr = refl
part_longer Fro = refl
part_longer From = refl

pub part_grown : (part : Part) (text start : List ℕ) (b : ℕ) (o : Option Part) → text ≡ start ++ part_text part → next_byte part ≡ b → longer_part part ≡ o
    → text ++ b ∷ [] ≡ start ++ text_of o
part_grown part text start b o e f g =
    ap (λ (l : List ℕ). l ++ b ∷ []) e ∙ append_assoc start (part_text part) (b ∷ []) ∙ ap (λ c. start ++ (part_text part ++ c ∷ [])) (sym f)
    ∙ ap (λ (l : List ℕ). start ++ l) (part_longer part ∙ ap text_of g)

-- another byte after it
pub part_else : (part : Part) (b : ℕ) (more : List ℕ) → (next_byte part == b) ≡ false → begins_from (part_text part ++ b ∷ more) ≡ false
part_else Nothing b more e = rw e refl
part_else F b more e = rw e refl
part_else Fr b more e = rw e refl
part_else Fro b more e = rw e refl
part_else From b more e = rw e refl

pub boundary_else : (part : Part) (b : ℕ) (more : List ℕ) → (next_byte part == b) ≡ false → is_boundary (part_text part ++ b ∷ more) ≡ false
boundary_else Nothing b more e = part_else Nothing b more e
boundary_else F b more e = part_else F b more e
boundary_else Fr b more e = part_else Fr b more e
boundary_else Fro b more e = part_else Fro b more e
boundary_else From b more e = part_else From b more e

boundary_part : (part : Part) → is_nothing part ≡ false → is_boundary (part_text part) ≡ false
boundary_part Nothing e = absurd (true≢false e)
boundary_part F e = refl
boundary_part Fr e = refl
boundary_part Fro e = refl
boundary_part From e = refl

part_ends : (part : Part) → is_nothing part ≡ false → EndsInLine (part_text part)
part_ends Nothing e = absurd (true≢false e)
part_ends F e = record { prefix = []; last = 70; whole = refl; other = refl }
part_ends Fr e = record { prefix = codes "F"; last = 114; whole = refl; other = refl }
part_ends Fro e = record { prefix = codes "Fr"; last = 111; whole = refl; other = refl }
part_ends From e = record { prefix = codes "Fro"; last = 109; whole = refl; other = refl }

pub ends_in_part : (part : Part) (text start : List ℕ) → text ≡ start ++ part_text part → is_nothing part ≡ false → EndsInLine text
ends_in_part part text start e some = subst EndsInLine (sym e) (ends_after start (part_text part) (part_ends part some))

-- ---- a part of `From ` after the lines of a letter

pub record IsStarted (text : List ℕ) (n : Begun) (part : Part) : Type 0 where
  pub start : List ℕ
  pub body : IsBody start n
  pub whole : text ≡ start ++ part_text part

pub open_started : (text : List ℕ) (n : Begun) (part : Part) → IsOpen text n part → IsStarted text n part
open_started text n part o = record { start = o.before ++ lf ∷ []; body = body_line o.before n [] o.body (literal [] refl) refl; whole = o.whole }

pub line_started : (text : List ℕ) (n : Begun) (part : Part) → IsLine text n part → IsStarted text n part
line_started text n part l = record { start = l.before ++ lf ∷ []; body = l.body; whole = l.whole }

pub started_begins : (text : List ℕ) (n : Begun) (part : Part) (more : List ℕ) → IsStarted text n part → is_boundary (text ++ more) ≡ true
started_begins text n part more s =
    ap is_boundary (ap (λ (l : List ℕ). l ++ more) s.whole ∙ append_assoc s.start (part_text part) more) ∙ body_begins s.start n (part_text part ++ more) s.body

pub started_line : (text : List ℕ) (n : Begun) (part : Part) → IsStarted text n part → IsBody (text ++ lf ∷ []) n
started_line text n part s =
    subst (λ (l : List ℕ). IsBody l n) (sym (ap (λ (l : List ℕ). l ++ lf ∷ []) s.whole ∙ append_assoc s.start (part_text part) (lf ∷ [])))
    (body_line s.start n (part_text part) s.body (part_one part) (part_plain part))

-- ---- a mailbox begins so

part_begins : (text : List ℕ) (letters : List Letter) (part : Part) → AreLetters letters → text ≡ written letters → BeginsMailbox (text ++ part_text part)
part_begins text letters part are e =
    let rest : List ℕ = missing part ++ lf ∷ [] in
    let whole : text ++ (codes "From " ++ lf ∷ []) ≡ (text ++ part_text part) ++ rest =
    sym (append_assoc text (part_text part) rest ∙ ap (λ (l : List ℕ). text ++ l) (part_whole part)) in
    begins_shorter (text ++ part_text part) rest (subst BeginsMailbox whole (body_begins_mailbox _ _ (body_first text letters [] are e (literal [] refl))))

pub at_begins : (state : FormState) (text : List ℕ) (n : Begun) → EndsAt text n state → BeginsMailbox text
at_begins (Start part) text n at = subst BeginsMailbox (sym at.1) (part_begins [] [] part tt refl)
at_begins (Open part) text n at =
    let ended = body_ended at.before n at.body in
    subst BeginsMailbox (sym at.whole) (part_begins (at.before ++ lf ∷ []) (ended.before ++ ended.last ∷ []) part ended.is.are (sym ended.is.whole))
at_begins (Line part) text n at =
    begins_shorter text (lf ∷ []) (body_begins_mailbox (text ++ lf ∷ []) n (started_line text n part (line_started text n part at)))
at_begins Inside text n at = begins_shorter text (lf ∷ []) (body_begins_mailbox (text ++ lf ∷ []) n (at.goes [] (literal [] refl)))

-- ---- where it may not end

line_part_short : (part : Part) (text : List ℕ) (n : Begun) → IsLine text n part → (letters : List Letter) → IsMailboxOf text letters → ⊥
line_part_short Nothing text n l letters m =
    line_short l.before l.ends letters (subst (λ (x : List ℕ). IsMailboxOf x letters) (l.whole ∙ append-nil (l.before ++ lf ∷ [])) m)
line_part_short F text n l letters m = text_short text (ends_in_part F text (l.before ++ lf ∷ []) l.whole refl) letters m
line_part_short Fr text n l letters m = text_short text (ends_in_part Fr text (l.before ++ lf ∷ []) l.whole refl) letters m
line_part_short Fro text n l letters m = text_short text (ends_in_part Fro text (l.before ++ lf ∷ []) l.whole refl) letters m
line_part_short From text n l letters m = text_short text (ends_in_part From text (l.before ++ lf ∷ []) l.whole refl) letters m

pub at_short : (state : FormState) (text : List ℕ) (n : Begun) → EndsAt text n state → is_whole state ≡ false → (letters : List Letter)
    → IsMailboxOf text letters → ⊥
at_short (Start part) text n at e = text_short text (ends_in_part part text [] at.1 e)
at_short (Open part) text n at e = text_short text (ends_in_part part text (at.before ++ lf ∷ []) at.whole e)
at_short (Line part) text n at e = line_part_short part text n at
at_short Inside text n at e = text_short text at.ends

-- ---- whether it begins with a From line

all_of : (text : List ℕ) → is_boundary (text ++ []) ≡ true → is_boundary text ≡ true
all_of text e = ap is_boundary (sym (append-nil text)) ∙ e

pub start_bad : (part : Part) (text : List ℕ) → text ≡ part_text part → is_nothing part ≡ false → is_boundary text ≡ false
start_bad part text e some = ap is_boundary e ∙ boundary_part part some

pub open_good : (part : Part) (text : List ℕ) (n : Begun) → IsOpen text n part → is_boundary text ≡ true
open_good part text n o = all_of text (started_begins text n part [] (open_started text n part o))

pub line_good : (part : Part) (text : List ℕ) (n : Begun) → IsLine text n part → is_boundary text ≡ true
line_good part text n l = all_of text (started_begins text n part [] (line_started text n part l))

pub inside_good : (text : List ℕ) (n : Begun) → IsInsideLine text n → is_boundary text ≡ true
inside_good text n i = all_of text (i.begins [])
