use Rattle.std.proofs.Common.{◌+◌, ◌*◌, length}
use Rattle.mbox_spool.specs.Steps.{pending_weight}
use Rattle.mbox_spool.proofs.Pieces.{TakesPiece}
use Rattle.mbox_spool.proofs.quoted.QuotedText.piece.Given as goal

abbrev pub invariant-loop-rest : goal.invariant-loop-rest
invariant-loop-rest g l = TakesPiece (g.S.Spool.state l.initial.spool) (g.S.Spool.state l.spool) l.fn.self l.pending l.fn.piece l.rest

abbrev pub decreases-loop-rest : goal.decreases-loop-rest
decreases-loop-rest g l = 2 * length l.rest + pending_weight l.pending
