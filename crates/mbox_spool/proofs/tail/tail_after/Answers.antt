use Rattle.std.proofs.Common.{◌∙◌}
use Rattle.mbox_spool.specs.Tail.{ending_of}
use Rattle.mbox_spool.proofs.Tails.{no_lf, last_line, cut_at}
use Rattle.mbox_spool.proofs.tail.tail_after.Goals as goal

pub within_line-requires : goal.within_line-requires
within_line-requires c = no_lf c.args.piece.now c.in-None.ensures

pub within_line-requires-in-Some : goal.within_line-requires-in-Some
within_line-requires-in-Some c = last_line c.args.piece.now c.in-Some.at c.in-Some.ensures.0

pub returns-in-Some : goal.returns-in-Some
returns-in-Some c =
    c.within_line-in-Some.ensures
    ∙ cut_at (ending_of c.args.tail) (ending_of c.after_lf.result) c.args.piece.now c.in-Some.at c.in-Some.ensures.0 c.in-Some.ensures.1 c.after_lf.ensures
