use Rattle.std.proofs.Common.{drop}
use Rattle.lmtpd_output.proofs.Written.{WritesUpTo}
use Rattle.lmtpd_check.specs.Checked.{unlocked_lines}
use Rattle.lmtpd_check.proofs.lines.write_unlocked_lines.Given as goal

abbrev pub invariant-loop-name : goal.invariant-loop-name
invariant-loop-name g l = WritesUpTo (g.E.Write.contents l.initial.error) (g.E.Write.contents l.error) (unlocked_lines l.names)
    (unlocked_lines (drop l.name-index l.names))
