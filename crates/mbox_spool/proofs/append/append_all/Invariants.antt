use Rattle.std.proofs.Common.{length}
use Rattle.mbox_spool.proofs.Taken.{TakesUpTo}
use Rattle.mbox_spool.proofs.append.append_all.Given as goal

abbrev pub invariant-loop-rest : goal.invariant-loop-rest
invariant-loop-rest g l = TakesUpTo (g.S.Spool.state l.initial.spool) (g.S.Spool.state l.spool) l.fn.bytes l.rest

abbrev pub decreases-loop-rest : goal.decreases-loop-rest
decreases-loop-rest g l = length l.rest
