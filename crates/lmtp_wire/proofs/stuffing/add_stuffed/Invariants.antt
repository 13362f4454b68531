use Rattle.std.proofs.Common.{◌≡◌, ◌++◌, length}
use Rattle.mail_world.specs.Text.{cr, lf}
use Rattle.mail_world.specs.Data.{dot, with_dots}
use Rattle.lmtp_wire.specs.Runs.{GoesOnFrom}
use Rattle.lmtp_wire.proofs.stuffing.add_stuffed.Given as goal

-- what was added, and then what is left
abbrev pub invariant-loop-run : goal.invariant-loop-run
invariant-loop-run l = record {
  whole : l.out.items ++ with_dots lf dot l.rest ≡ l.fn.out.items ++ with_dots cr lf l.fn.message;
  ahead : GoesOnFrom l.fn.out.items l.out.items;
}

abbrev pub decreases-loop-run : goal.decreases-loop-run
decreases-loop-run l = length l.rest
