use Rattle.std.proofs.Common.{◌<◌, length, arith, drop}
use Rattle.std.proofs.lemmas.List.{length-drop, drop-drop}
use Rattle.mbox_spool.specs.Lines.{ends_line}
use Rattle.mbox_spool.proofs.Blocks.{end_lanes, no_pairs, first_end}
use Rattle.mbox_spool.proofs.lines.line_ends.Goals as goal

pub returns-clause-none : goal.returns-clause-none
returns-clause-none c =
    let text = drop c.args.at c.args.piece.now in
    let long = length-drop c.args.at c.args.piece.now in
    rw (← drop-drop 1 c.args.at c.args.piece.now)
    (no_pairs ends_line 64 text _ (omega arith) (end_lanes 64 text (omega (arith, long, c.requires))))

pub returns-clause-first : goal.returns-clause-first
returns-clause-first c =
    let text = drop c.args.at c.args.piece.now in
    let long = length-drop c.args.at c.args.piece.now in
    let more : 64 < length text = omega (arith, long, c.requires) in
    rw (← drop-drop 1 c.args.at c.args.piece.now) (first_end text _ more (end_lanes 64 text more))
