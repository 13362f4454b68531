use Rattle.std.proofs.Common.{◌∷◌, [], take, get_or, ap, sym, ◌∙◌}
use Rattle.std.proofs.lemmas.List.{take_more}
use Rattle.mail_form.specs.Forms.{form_next, form_after}
use Rattle.mail_form.proofs.Steps.{form_after-append}
use Rattle.mail_form.proofs.form.after_bytes.Goals as goal

pub loop-byte-preserved : goal.loop-byte-preserved
loop-byte-preserved c =
    let text = c.args.piece.now in
    let i = c.loop-byte.byte-index in
    c.next-form.ensures ∙ ap (λ f. form_next f (get_or text i 0)) c.loop-byte.invariant
    ∙ sym (form_after-append c.args.form (take i text) (get_or text i 0 ∷ []))
    ∙ ap (form_after c.args.form) (sym (take_more text i 0 c.loop-byte-test.true))
