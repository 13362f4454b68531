-- Lines without a NUL and without a CR but at their ends, which are too few to be too long.
use Rattle.std.proofs.Common.{◌≡◌, ℕ, zero, suc, ◌+◌, ◌<◌, ◌≤◌, arith, Bool, true, false, not, ◌&&◌, ◌||◌, ◌==◌, cond, List, [], ◌∷◌, length, take, drop, take-append-drop, get_or, refl, sym, ap, ◌∙◌, ◌⊎◌, inl, inr}
use Rattle.mail_world.specs.declared.limits.TheConstants.{COUNTED_LINE_LIMIT}
use Rattle.mail_world.specs.Text.{cr, lf, begins}
use Rattle.mail_world.specs.Malformed.{nul}
use Rattle.mbox_spool.specs.Lines.{pairs}
use Rattle.mail_form.specs.declared.form.MessageForm.{MessageForm}
use Rattle.mail_form.specs.declared.form.MessageForm.TheVariants.{InLine, Malformed}
use Rattle.mail_form.specs.Forms.{is_break, next_by, form_next, form_after, EndsLine, IsSoundText}
use Rattle.mail_form.proofs.Steps.{form_after-append, malformed_stays, at_line, short_count}

abbrev Ends : MessageForm → ℕ → List ℕ → Type 0
Ends form n text = form_after form (take n text) ≡ InLine 0 false

-- One byte before others: which of the tests it passes, and the one after it. `follows`: after a CR that came last an LF
-- follows.
step : (n counted b c : ℕ) (after_cr : Bool) (text : List ℕ) (z l r f : Bool) → (b == nul) ≡ z → (b == lf) ≡ l → (b == cr) ≡ r → (c == lf) ≡ f
    → counted + suc n ≤ COUNTED_LINE_LIMIT → ◌≡◌ {A = ℕ} (cond (z || (r && not f)) 1 0) 0 → (after_cr ≡ true → l ≡ true)
    → ((k : ℕ) (a : Bool) → k + n ≤ COUNTED_LINE_LIMIT → (a ≡ true → (c == lf) ≡ true) → Ends (InLine k a) (suc n) (c ∷ text))
    → Ends (next_by counted after_cr z l r) (suc n) (c ∷ text)
step n counted b c after_cr text true l r f ez el er ef few plain follows goes = absurd (omega (arith, plain))
step n counted b c after_cr text false true r f ez el er ef few plain follows goes = goes 0 false (omega (arith, few)) (λ e. cc)
step n counted b c true text false false r f ez el er ef few plain follows goes = let wrong : false ≡ true = follows refl in cc
step n counted b c false text false false true true ez el er ef few plain follows goes =
    ap (λ (form : MessageForm). form_after form (take (suc n) (c ∷ text))) (short_count counted true (omega (arith, few)))
    ∙ goes counted true (omega (arith, few)) (λ e. ef)
step n counted b c false text false false true false ez el er ef few plain follows goes = absurd (omega (arith, plain))
step n counted b c false text false false false f ez el er ef few plain follows goes =
    ap (λ (form : MessageForm). form_after form (take (suc n) (c ∷ text))) (short_count (counted + 1) false (omega (arith, few)))
    ∙ goes (counted + 1) false (omega (arith, few)) (λ e. cc)

-- the first n + 1 bytes, of which the last is an LF
sound_from : (n counted : ℕ) (after_cr : Bool) (text : List ℕ) → n < length text → pairs is_break n text ≡ 0 → get_or text n 0 ≡ lf
    → counted + n ≤ COUNTED_LINE_LIMIT → (after_cr ≡ true → begins lf text ≡ true) → Ends (InLine counted after_cr) (suc n) text
sound_from zero counted after_cr [] long plain at few follows = absurd (omega arith)
sound_from zero counted after_cr (b ∷ text) long plain at few follows =
    ap (λ (c : ℕ). form_next (InLine counted after_cr) c) at
sound_from (suc n) counted after_cr [] long plain at few follows = absurd (omega arith)
sound_from (suc n) counted after_cr (b ∷ []) long plain at few follows = absurd (omega arith)
sound_from (suc n) counted after_cr (b ∷ c ∷ text) long plain at few follows =
    let rest : pairs is_break n (c ∷ text) ≡ 0 = omega (arith, plain) in
    let one : ◌≡◌ {A = ℕ} (cond (is_break b c) 1 0) 0 = omega (arith, plain) in
    step n counted b c after_cr text (b == nul) (b == lf) (b == cr) (c == lf) refl refl refl refl few one follows
    (λ k a less f. sound_from n k a (c ∷ text) (omega arith) rest at less f)

pub sound_lines : (n m : ℕ) (text : List ℕ) → m ≡ n + 1 → n < length text → pairs is_break n text ≡ 0 → get_or text n 0 ≡ lf → n ≤ COUNTED_LINE_LIMIT
    → IsSoundText (take m text)
sound_lines n m text is long plain at few =
    let same : suc n ≡ m = omega (arith, is) in
    record {
      goes = ap (λ (k : ℕ). form_after (InLine 0 false) (take k text)) (sym same)
          ∙ sound_from n 0 false text long plain at (omega (arith, few)) (λ e. cc);
    }

none_sound : (n : ℕ) (form : MessageForm) → form_after form (take n []) ≡ form
none_sound zero form = refl
none_sound (suc n) form = refl

-- what a text before which a line ended, or all was malformed, makes of a form, without lines that are sound
skipped : (form : MessageForm) (n : ℕ) (rest : List ℕ) → (form ≡ InLine 0 false) ⊎ (form ≡ Malformed) → IsSoundText (take n rest)
    → form_after form (take n rest) ≡ form
skipped form n rest (inl e) sound = ap (λ (f : MessageForm). form_after f (take n rest)) e ∙ sound.goes ∙ sym e
skipped form n rest (inr e) sound = ap (λ (f : MessageForm). form_after f (take n rest)) e ∙ malformed_stays (take n rest) ∙ sym e

skipped_at : (form : MessageForm) (r n : ℕ) (piece : List ℕ) → (drop r piece ≡ []) ⊎ EndsLine (take r piece) → IsSoundText (take n (drop r piece))
    → form_after (form_after form (take r piece)) (take n (drop r piece)) ≡ form_after form (take r piece)
skipped_at form r n piece (inl none) sound =
    ap (λ (rest : List ℕ). form_after (form_after form (take r piece)) (take n rest)) none ∙ none_sound n (form_after form (take r piece))
skipped_at form r n piece (inr ends) sound =
    skipped (form_after form (take r piece)) n (drop r piece) (at_line form (take r piece) ends) sound

none_left : (piece : List ℕ) → drop (length piece) piece ≡ []
none_left [] = refl
none_left (b ∷ piece) = none_left piece

-- where it went on from the first line over sound ones
pub goes_on : (form : MessageForm) (r n : ℕ) (piece : List ℕ) → (drop r piece ≡ []) ⊎ EndsLine (take r piece) → IsSoundText (take n (drop r piece))
    → form_after (form_after form (take r piece)) (drop n (drop r piece)) ≡ form_after form piece
goes_on form r n piece ends sound =
    ap (λ (f : MessageForm). form_after f (drop n (drop r piece))) (sym (skipped_at form r n piece ends sound))
    ∙ sym (form_after-append (form_after form (take r piece)) (take n (drop r piece)) (drop n (drop r piece)))
    ∙ ap (λ (rest : List ℕ). form_after (form_after form (take r piece)) rest) (take-append-drop n (drop r piece))
    ∙ sym (form_after-append form (take r piece) (drop r piece))
    ∙ ap (λ (text : List ℕ). form_after form text) (take-append-drop r piece)

pub first_ends : (r : ℕ) (piece : List ℕ) → (r ≡ length piece) ⊎ EndsLine (take r piece) → (drop r piece ≡ []) ⊎ EndsLine (take r piece)
first_ends r piece (inl e) = inl (ap (λ (k : ℕ). drop k piece) e ∙ none_left piece)
first_ends r piece (inr ends) = inr ends
