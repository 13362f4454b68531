use Rattle.std.proofs.Common.{◌++◌, length}
use Rattle.mbox_spool.specs.Writing.{Writes}
use Rattle.mbox_record.specs.Writing.{bytes_owed}
use Rattle.mbox_record.proofs.record.RecordWriter.piece.Given as goal

abbrev pub invariant-loop-rest : goal.invariant-loop-rest
invariant-loop-rest g l =
    Writes (g.S.Spool.state l.initial.spool) (g.S.Spool.state l.spool) (λ rest. bytes_owed l.fn.self (l.fn.piece ++ rest))
    (λ rest. bytes_owed l.writer (l.rest ++ rest))

abbrev pub decreases-loop-rest : goal.decreases-loop-rest
decreases-loop-rest g l = length l.rest
