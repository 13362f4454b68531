use Rattle.std.proofs.Common.{◌+◌, ◌-◌, ◌*◌, length}
use Rattle.std.specs.Prelude.{if◌then◌else◌}
use Rattle.mbox_spool.proofs.Counts.{InSpool, nothing}
use Rattle.mbox_record.proofs.Written.{HasWritten}
use Rattle.mbox_record.proofs.record.counting.count_bytes.Given as goal

abbrev pub invariant-loop-found : goal.invariant-loop-found
invariant-loop-found l = InSpool (λ t. HasWritten nothing t l.fn.quoted l.fn.place l.fn.bytes l.quoted l.rest l.found) l.count

abbrev pub decreases-loop-found : goal.decreases-loop-found
decreases-loop-found l = if l.found.is_mark then 2 * (length l.rest - l.found.at) + 1 else 0
