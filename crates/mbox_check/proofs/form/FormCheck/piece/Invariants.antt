use Rattle.std.proofs.Common.{length}
use Rattle.mbox_check.proofs.Taken.{IsTakenUpTo}
use Rattle.mbox_check.proofs.form.FormCheck.piece.Given as goal

-- the piece is taken up to the rest
abbrev pub invariant-loop-rest : goal.invariant-loop-rest
invariant-loop-rest l = IsTakenUpTo l.initial.self l.self l.fn.piece l.rest

abbrev pub decreases-loop-rest : goal.decreases-loop-rest
decreases-loop-rest l = length l.rest
