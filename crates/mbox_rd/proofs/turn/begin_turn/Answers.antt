use Rattle.mbox_spool.proofs.Taken.{OnErr-any}
use Rattle.mbox_rd.proofs.Trying.{between-start, between-missed, begun-then, missed-then, tried-some, tried-none}
use Rattle.mbox_rd.proofs.turn.begin_turn.Goals as goal

pub loop-init : goal.loop-init
loop-init g c = between-start _

pub returns-in_err-end-clause-err : goal.returns-in_err-end-clause-err
returns-in_err-end-clause-err g c = OnErr-any _ (missed-then _ _ _ c.loop.invariant (c.in_err-end.ensures.err))

pub returns-in-Some-clause-ok : goal.returns-in-Some-clause-ok
returns-in-Some-clause-ok g c = begun-then _ _ _ _ c.loop.invariant
    (tried-some _ _ _ _ c.in-Some.is (c.in_ok-end.ensures.ok))

pub loop-preserved : goal.loop-preserved
loop-preserved g c = between-missed _ _ _ c.loop.invariant
    (tried-none _ _ _ c.in_default.is (c.in_ok-end.ensures.ok))
