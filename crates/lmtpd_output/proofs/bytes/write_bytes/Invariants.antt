use Rattle.std.proofs.Common.{length}
use Rattle.lmtpd_output.proofs.Written.{WritesUpTo}
use Rattle.lmtpd_output.proofs.bytes.write_bytes.Given as goal

abbrev pub invariant-loop-rest : goal.invariant-loop-rest
invariant-loop-rest g l = WritesUpTo (g.W.Write.contents l.initial.writer) (g.W.Write.contents l.writer) l.fn.bytes l.rest

abbrev pub decreases-loop-rest : goal.decreases-loop-rest
decreases-loop-rest g l = length l.rest
