use Rattle.mbox_spool.proofs.Taken.{OnErr-any, TakesUpTo-more, SpoolFailed-rest}
use Rattle.mbox_spool.proofs.append.append_all.Goals as goal

pub returns-in_err-n-clause-err : goal.returns-in_err-n-clause-err
returns-in_err-n-clause-err g c = OnErr-any _ (SpoolFailed-rest _ _ _ _ _ c.loop-rest.invariant c.in_err-n.ensures.err)

pub loop-rest-preserved : goal.loop-rest-preserved
loop-rest-preserved g c = TakesUpTo-more _ _ _ _ c.loop-rest.rest.now c.in_ok-n.n c.loop-rest.invariant c.in_ok-n.ensures.ok
