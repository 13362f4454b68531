use Rattle.std.proofs.Common.{◌≡◌, false, length}
use Rattle.mail_world.specs.Text.{lf, has_byte}
use Rattle.mail_world.specs.Endings.{ending_from}
use Rattle.mbox_spool.specs.Tail.{ending_of}
use Rattle.mbox_spool.proofs.tail.within_line.Given as goal

-- the rest leads on to where the piece leads
abbrev pub invariant-loop-rest : goal.invariant-loop-rest
invariant-loop-rest l = (ending_from (ending_of l.tail) l.rest ≡ ending_from (ending_of l.fn.tail) l.fn.piece)
    × (has_byte l.rest lf ≡ false)

abbrev pub decreases-loop-rest : goal.decreases-loop-rest
decreases-loop-rest l = length l.rest
