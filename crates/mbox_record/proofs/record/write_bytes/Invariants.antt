use Rattle.std.proofs.Common.{◌+◌, ◌-◌, ◌*◌, length}
use Rattle.std.specs.Prelude.{if◌then◌else◌}
use Rattle.mbox_record.proofs.Written.{HasWritten}
use Rattle.mbox_record.proofs.record.write_bytes.Given as goal

abbrev pub invariant-loop-found : goal.invariant-loop-found
invariant-loop-found g l =
    HasWritten (g.S.Spool.state l.initial.spool) (g.S.Spool.state l.spool) l.fn.quoted l.fn.place l.fn.bytes l.quoted l.rest l.found

abbrev pub decreases-loop-found : goal.decreases-loop-found
decreases-loop-found g l = if l.found.is_mark then 2 * (length l.rest - l.found.at) + 1 else 0
