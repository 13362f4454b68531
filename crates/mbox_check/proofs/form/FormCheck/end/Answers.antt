use Rattle.std.proofs.Common.{sym, subst, ◌∙◌}
use Rattle.mbox_check.specs.Form.{IsFound}
use Rattle.mbox_check.proofs.Taken.{end_whole, end_broken}
use Rattle.mbox_check.proofs.form.FormCheck.end.Goals as goal

pub returns-then-is_whole : goal.returns-then-is_whole
returns-then-is_whole c = end_whole c.args.self.now (sym c.is_whole.ensures ∙ c.if-is_whole.true)

pub returns-else-is_whole : goal.returns-else-is_whole
returns-else-is_whole c = λ text read.
    subst (λ found. IsFound text found) (sym c.broken.ensures) (end_broken c.args.self.now (sym c.is_whole.ensures ∙ c.if-is_whole.false) text read)
