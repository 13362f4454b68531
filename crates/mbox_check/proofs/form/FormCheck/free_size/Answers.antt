use Rattle.std.proofs.Common.{length, take, sym, subst}
use Rattle.mbox_check.specs.SoFar.{IsFree}
use Rattle.mbox_check.proofs.Taken.{free_found, free_all}
use Rattle.mbox_check.proofs.form.FormCheck.free_size.Goals as goal

pub returns-in-Some-clause-free : goal.returns-in-Some-clause-free
returns-in-Some-clause-free c = λ _.
    subst (λ state. IsFree state (take c.in-Some.at c.args.text.now)) (sym c.in-Inside.is) (free_found c.args.text.now c.in-Some.at c.in-Some.ensures.0)

pub returns-in-None-clause-free : goal.returns-in-None-clause-free
returns-in-None-clause-free c = λ _.
    subst (λ state. IsFree state (take (length c.args.text.now) c.args.text.now)) (sym c.in-Inside.is) (free_all c.args.text.now c.in-None.ensures)
