use Rattle.std.proofs.Common.{◌≡◌, drop}
use Rattle.mail_world.specs.Records.{is_from_line}
use Rattle.mbox_letters.proofs.reading.is_from_line.Given as goal

-- what was passed is `>` and decides nothing
abbrev pub invariant-loop-i : goal.invariant-loop-i
invariant-loop-i l = is_from_line (drop l.i l.line) ≡ is_from_line l.line
