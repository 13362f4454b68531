-- What a text makes of a form.
use Rattle.std.proofs.Common.{◌≡◌, ℕ, ◌<◌, ◌≤◌, arith, Bool, true, false, cond, nat_lt, List, [], ◌∷◌, ◌++◌, refl, ap, ◌∙◌}
use Rattle.std.proofs.Common.{◌⊎◌, inl, inr}
use Rattle.std.proofs.lemmas.Bool.Decides.{nat_tests}
use Rattle.mail_world.specs.declared.limits.TheConstants.{COUNTED_LINE_LIMIT}
use Rattle.mail_world.specs.Text.{lf}
use Rattle.mail_form.specs.declared.form.MessageForm.{MessageForm}
use Rattle.mail_form.specs.declared.form.MessageForm.TheVariants.{Empty, InLine, Malformed}
use Rattle.mail_form.specs.Forms.{after_count, form_next, form_after, EndsLine}

pub form_after-append : (form : MessageForm) (xs ys : List ℕ) → form_after form (xs ++ ys) ≡ form_after (form_after form xs) ys
form_after-append form [] ys = refl
form_after-append form (x ∷ xs) ys = form_after-append (form_next form x) xs ys

pub malformed_stays : (text : List ℕ) → form_after Malformed text ≡ Malformed
malformed_stays [] = refl
malformed_stays (b ∷ text) = malformed_stays text

-- an LF ends a line, or all is malformed
after_lf : (form : MessageForm) → (form_next form lf ≡ InLine 0 false) ⊎ (form_next form lf ≡ Malformed)
after_lf Empty = inl refl
after_lf (InLine counted after_cr) = inl refl
after_lf Malformed = inr refl

pub at_line : (form : MessageForm) (text : List ℕ) → EndsLine text → (form_after form text ≡ InLine 0 false) ⊎ (form_after form text ≡ Malformed)
at_line form text ends =
    let whole : form_after form text ≡ form_next (form_after form ends.before) lf =
    ap (form_after form) ends.is ∙ form_after-append form ends.before (lf ∷ []) in
    elim (after_lf (form_after form ends.before)) [ inl e ↦ inl (whole ∙ e) | inr e ↦ inr (whole ∙ e) ]

pub short_count : (counted : ℕ) (after_cr : Bool) → counted ≤ COUNTED_LINE_LIMIT → after_count counted after_cr ≡ InLine counted after_cr
short_count counted after_cr few =
    let e : nat_lt COUNTED_LINE_LIMIT counted ≡ false = grind (arith, nat_tests, few) in
    ap (λ (t : Bool). cond t Malformed (InLine counted after_cr)) e

pub long_count : (counted : ℕ) (after_cr : Bool) → COUNTED_LINE_LIMIT < counted → after_count counted after_cr ≡ Malformed
long_count counted after_cr many =
    let e : nat_lt COUNTED_LINE_LIMIT counted ≡ true = grind (arith, nat_tests, many) in
    ap (λ (t : Bool). cond t Malformed (InLine counted after_cr)) e
