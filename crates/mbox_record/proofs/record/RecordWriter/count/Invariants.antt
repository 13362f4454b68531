use Rattle.std.proofs.Common.{◌++◌, length}
use Rattle.mbox_spool.specs.Writing.{Writes}
use Rattle.mbox_record.specs.Writing.{bytes_owed}
use Rattle.mbox_spool.proofs.Counts.{InSpool, nothing}
use Rattle.mbox_record.proofs.record.RecordWriter.count.Given as goal

abbrev pub invariant-loop-rest : goal.invariant-loop-rest
invariant-loop-rest l =
    InSpool (λ t. Writes nothing t (λ rest. bytes_owed l.fn.self (l.fn.piece ++ rest)) (λ rest. bytes_owed l.writer (l.rest ++ rest))) l.count

abbrev pub decreases-loop-rest : goal.decreases-loop-rest
decreases-loop-rest l = length l.rest
