use Rattle.std.proofs.Common.{◌+◌, ◌-◌, ◌*◌, length}
use Rattle.mbox_spool.specs.Steps.{IsWriterStep, pending_weight}
use Rattle.mbox_spool.proofs.pending.long_step.Given as goal

abbrev pub invariant-loop-more : goal.invariant-loop-more
invariant-loop-more l = IsWriterStep l.fn.pending l.piece l.step

abbrev pub decreases-loop-more : goal.decreases-loop-more
decreases-loop-more l = 2 * (length l.piece - l.step.taken) + pending_weight l.step.next
