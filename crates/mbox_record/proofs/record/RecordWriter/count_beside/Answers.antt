use Rattle.std.proofs.Common.{◌++◌}
use Rattle.mbox_spool.specs.Quoted.{quoted_owed}
use Rattle.mbox_record.specs.Writing.{bytes_owed}
use Rattle.mbox_record.proofs.Counted.{counts_alike}
use Rattle.mbox_record.proofs.record.RecordWriter.count_beside.Goals as goal

pub returns-then-is_like : goal.returns-then-is_like
returns-then-is_like c =
    let piece = c.args.piece.now in
    counts_alike c.args.more (λ rest. quoted_owed c.args.plain (piece ++ rest)) (quoted_owed c.args.next) (λ rest. bytes_owed c.args.self (piece ++ rest))
    (bytes_owed c.past_marks.result) c.requires (λ rest. c.is_like.ensures c.if-is_like.true (piece ++ rest)) c.past_marks.ensures
