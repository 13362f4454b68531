use Rattle.std.proofs.Common.{nat_lt, ap, sym, ◌∙◌}
use Rattle.mail_world.specs.declared.limits.TheConstants.{COUNTED_LINE_LIMIT}
use Rattle.mail_form.specs.Forms.{ends_malformed}
use Rattle.mail_form.proofs.Laws.{form_says}
use Rattle.mail_form.proofs.form.MessageForm.is_malformed.Goals as goal

pub returns-in-Empty-clause-law : goal.returns-in-Empty-clause-law
returns-in-Empty-clause-law c = λ message h. ap ends_malformed (sym c.in-Empty.is) ∙ form_says c.args.self message h

pub returns-in-InLine-clause-law : goal.returns-in-InLine-clause-law
returns-in-InLine-clause-law c = λ message h.
    ap (λ k. nat_lt COUNTED_LINE_LIMIT k) c.with_cr.ensures.value ∙ ap ends_malformed (sym c.in-InLine.is)
    ∙ form_says c.args.self message h

pub returns-in-Malformed-clause-law : goal.returns-in-Malformed-clause-law
returns-in-Malformed-clause-law c = λ message h. ap ends_malformed (sym c.in-Malformed.is) ∙ form_says c.args.self message h
