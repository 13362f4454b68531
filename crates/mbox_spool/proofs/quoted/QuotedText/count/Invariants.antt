use Rattle.std.proofs.Common.{◌+◌, ◌*◌, length}
use Rattle.mbox_spool.specs.Steps.{pending_weight}
use Rattle.mbox_spool.proofs.Pieces.{TakesPiece}
use Rattle.mbox_spool.proofs.Counts.{InSpool, nothing}
use Rattle.mbox_spool.proofs.quoted.QuotedText.count.Given as goal

abbrev pub invariant-loop-rest : goal.invariant-loop-rest
invariant-loop-rest l = InSpool (λ t. TakesPiece nothing t l.fn.self l.pending l.fn.piece l.rest) l.count

abbrev pub decreases-loop-rest : goal.decreases-loop-rest
decreases-loop-rest l = 2 * length l.rest + pending_weight l.pending
