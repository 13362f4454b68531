use Rattle.std.proofs.lemmas.Result.{err_from_is_err_and}
use Rattle.mbox_check.proofs.Taken.{taken_more, taken_breaks}
use Rattle.mbox_check.proofs.form.FormCheck.piece.Goals as goal

pub returns-in_err-size-clause-err : goal.returns-in_err-size-clause-err
returns-in_err-size-clause-err c =
    let p = err_from_is_err_and c.from_residual.result c.from_residual.ensures.1 in
    rw (p.1, p.2) (taken_breaks _ _ _ c.loop-rest.rest.now _ c.loop-rest.invariant c.in_err-size.ensures.err)

pub loop-rest-preserved : goal.loop-rest-preserved
loop-rest-preserved c = taken_more _ _ _ _ c.loop-rest.rest.now c.in_ok-size.size c.loop-rest.invariant c.in_ok-size.ensures.ok
