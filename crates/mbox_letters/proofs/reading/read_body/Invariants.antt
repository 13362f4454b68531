use Rattle.std.proofs.Common.{length}
use Rattle.mbox_letters.proofs.Bodies.{IsBodyUpTo}
use Rattle.mbox_letters.proofs.reading.read_body.Given as goal

-- the lines before the rest are read, and any reading goes on in the rest
abbrev pub invariant-loop-line : goal.invariant-loop-line
invariant-loop-line l = IsBodyUpTo l.fn.text l.body.items l.run l.rest

abbrev pub decreases-loop-line : goal.decreases-loop-line
decreases-loop-line l = length l.rest
