-- The place that breaks the form.
use Rattle.std.proofs.Common.{◌≡◌, inl, inr, ℕ, suc, ◌+◌, arith, true, false, ◌==◌, List, [], ◌∷◌, ◌++◌, length, take, None, sym, ap, subst, ◌∙◌, refl}
use Rattle.std.proofs.Common.{append_assoc, append-nil, true≢false}
use Rattle.std.specs.Prelude.{codes}
use Rattle.std.proofs.lemmas.List.{length-append, take_all}
use Rattle.mail_world.specs.Counts.{counted}
use Rattle.mail_world.specs.Text.{lf}
use Rattle.mail_world.specs.Reading.{Letter, written}
use Rattle.mbox_letters.specs.Letters.{is_boundary}
use Rattle.mbox_check.specs.declared.state.Part.{Part}
use Rattle.mbox_check.specs.declared.state.FormState.{FormState}
use Rattle.mbox_check.specs.declared.state.FormState.TheVariants.{Start, Open, Line, Inside}
use Rattle.mbox_check.specs.declared.fault.BadForm.TheVariants.{NoFromLine, NoEmptyLine}
use Rattle.mbox_check.specs.Form.{IsMailboxOf, BeginsMailbox, BreaksAt, counted_start, IsBad}
use Rattle.mbox_check.specs.States.{part_text, next_byte, longer_part, is_whole, bad_at}
use Rattle.mbox_check.specs.SoFar.{Begun, IsLine, EndsAt}
use Rattle.mail_world.proofs.OneLine.{literal}
use Rattle.mbox_check.proofs.MailLines.{from_after}
use Rattle.mbox_letters.proofs.Mailboxes.{boundary-letters}
use Rattle.mbox_check.proofs.Bodies.{ends_not_lf, ends_not_empty, body_in_letter}
use Rattle.mbox_check.proofs.Begins.{part_grown, boundary_else, open_started, line_started, started_begins, started_line, at_begins, at_short, start_bad, open_good, line_good, inside_good}

pub take_prefix : (text more : List ℕ) → take (length text) (text ++ more) ≡ text
take_prefix [] more = refl
take_prefix (b ∷ text) more = ap (λ l. b ∷ l) (take_prefix text more)

take_next : (text more : List ℕ) (b : ℕ) → take (suc (length text)) (text ++ b ∷ more) ≡ text ++ b ∷ []
take_next [] more b = refl
take_next (c ∷ text) more b = ap (λ l. c ∷ l) (take_next text more b)

-- at the byte after the text, or at its end
breaks_next : (text more : List ℕ) (b : ℕ) → BeginsMailbox text → (BeginsMailbox (text ++ b ∷ []) → ⊥) → BreaksAt (text ++ b ∷ more) (length text)
breaks_next text more b begins breaks =
    let long : length (text ++ b ∷ more) ≡ length text + suc (length more) = length-append text (b ∷ more) in record {
      within = omega arith;
      before = subst BeginsMailbox (sym (take_prefix text (b ∷ more))) begins;
      breaks = λ _ m. breaks (subst BeginsMailbox (take_next text more b) m);
      short = λ e. absurd (omega arith);
    }

breaks_end : (text : List ℕ) → BeginsMailbox text → ((letters : List Letter) → IsMailboxOf text letters → ⊥) → BreaksAt text (length text)
breaks_end text begins short = record {
  within = omega arith;
  before = subst BeginsMailbox (sym (take_all (length text) text (omega arith))) begins;
  breaks = λ h. absurd (omega arith);
  short = λ _. short;
}

-- ---- at the end

pub end_breaks : (state : FormState) (text : List ℕ) (n : Begun) → EndsAt text n state → is_whole state ≡ false → BreaksAt text (length text)
end_breaks state text n at e = breaks_end text (at_begins state text n at) (at_short state text n at e)

pub bad_end : (state : FormState) (text : List ℕ) (n : Begun) (taken letters start : ℕ) → taken ≡ counted (length text) → letters ≡ counted n.count
    → start ≡ counted_start n.start
    → EndsAt text n state → is_whole state ≡ false → IsBad text (bad_at state taken letters start)
bad_end (Start part) text n taken letters start t l s at e =
    (start_bad part text at.1 e, (length text, t, end_breaks (Start part) text n at e))
bad_end (Open part) text n taken letters start t l s at e = (
  open_good part text n at,
  (
    length text,
    n.count,
    n.start,
    t,
    l,
    s,
    end_breaks (Open part) text n at e,
    body_in_letter text text n (started_line text n part (open_started text n part at)) (take_all (length text) text (omega arith)),
  ),
)
bad_end (Line part) text n taken letters start t l s at e = (
  line_good part text n at,
  (
    length text,
    n.count,
    n.start,
    t,
    l,
    s,
    end_breaks (Line part) text n at e,
    body_in_letter text text n (started_line text n part (line_started text n part at)) (take_all (length text) text (omega arith)),
  ),
)
bad_end Inside text n taken letters start t l s at e = (
  inside_good text n at,
  (
    length text,
    n.count,
    n.start,
    t,
    l,
    s,
    end_breaks Inside text n at e,
    body_in_letter text text n (at.goes [] (literal [] refl)) (take_all (length text) text (omega arith)),
  ),
)

-- ---- at a byte

-- a mailbox doesn't begin with something else than a From line
no_prefix : (part : Part) (text : List ℕ) (b : ℕ) → text ≡ part_text part → (next_byte part == b) ≡ false → BeginsMailbox (text ++ b ∷ []) → ⊥
no_prefix part text b e f m =
    let good : is_boundary (written m.letters) ≡ true = ap is_boundary (sym (append-nil (written m.letters))) ∙ boundary-letters m.letters [] refl in
    let bad : is_boundary (text ++ b ∷ m.more) ≡ false = ap (λ (l : List ℕ). is_boundary (l ++ b ∷ m.more)) e ∙ boundary_else part b m.more f in
    true≢false (sym good ∙ ap is_boundary (m.is.whole ∙ append_assoc text (b ∷ []) m.more) ∙ bad)

pub start_breaks_at : (part : Part) (text more : List ℕ) (n : Begun) (b : ℕ) → EndsAt text n (Start part) → (next_byte part == b) ≡ false
    → BreaksAt (text ++ b ∷ more) (length text)
start_breaks_at part text more n b at e = breaks_next text more b (at_begins (Start part) text n at) (no_prefix part text b at.1 e)

pub start_breaks : (part : Part) (text more : List ℕ) (n : Begun) (b taken : ℕ) → taken ≡ counted (length text) → EndsAt text n (Start part)
    → (next_byte part == b) ≡ false
    → IsBad (text ++ b ∷ more) (NoFromLine taken)
start_breaks part text more n b taken t at e = (
  ap (λ (l : List ℕ). is_boundary (l ++ b ∷ more)) at.1 ∙ boundary_else part b more e,
  (length text, t, start_breaks_at part text more n b at e),
)

-- nor has it a From line after a line that isn't empty
no_line : (part : Part) (text : List ℕ) (n : Begun) (b : ℕ) → IsLine text n part → next_byte part ≡ b → longer_part part ≡ None → BeginsMailbox (text ++ b ∷ []) → ⊥
no_line part text n b l e f m =
    let prefix : List ℕ = l.before ++ lf ∷ [] in
    let whole : written m.letters ≡ l.before ++ lf ∷ (codes "From " ++ m.more) =
    m.is.whole ∙ ap (λ (x : List ℕ). x ++ m.more) (part_grown part text prefix b None l.whole e f) ∙ append_assoc prefix (codes "From ") m.more
    ∙ append_assoc l.before (lf ∷ []) (codes "From " ++ m.more) in
    elim (from_after m.letters l.before m.more m.is.are whole) [ inl g ↦ ends_not_empty l.before l.ends g | inr g ↦ ends_not_lf l.before g.0 l.ends g.1 ]

pub line_breaks_at : (part : Part) (text more : List ℕ) (n : Begun) (b : ℕ) → IsLine text n part → next_byte part ≡ b → longer_part part ≡ None
    → BreaksAt (text ++ b ∷ more) (length text)
line_breaks_at part text more n b l e f = breaks_next text more b (at_begins (Line part) text n l) (no_line part text n b l e f)

pub line_breaks : (part : Part) (text more : List ℕ) (n : Begun) (b taken letters start : ℕ) → taken ≡ counted (length text) → letters ≡ counted n.count
    → start ≡ counted_start n.start
    → IsLine text n part → next_byte part ≡ b → longer_part part ≡ None → IsBad (text ++ b ∷ more) (NoEmptyLine taken letters start)
line_breaks part text more n b taken letters start t c s l e f = (
  started_begins text n part (b ∷ more) (line_started text n part l),
  (
    length text,
    n.count,
    n.start,
    t,
    c,
    s,
    line_breaks_at part text more n b l e f,
    body_in_letter text (text ++ b ∷ more) n (started_line text n part (line_started text n part l)) (take_prefix text (b ∷ more)),
  ),
)
