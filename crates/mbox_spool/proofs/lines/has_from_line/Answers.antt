use Rattle.std.proofs.Common.{arith, drop}
use Rattle.std.proofs.lemmas.List.{length-drop, drop-drop}
use Rattle.mbox_spool.specs.Lines.{may_quote}
use Rattle.mbox_spool.proofs.Blocks.{quote_lanes, no_pairs, not_any}
use Rattle.mbox_spool.proofs.lines.has_from_line.Goals as goal

pub returns : goal.returns
returns c =
    let text = drop c.args.at c.args.piece.now in
    let long = length-drop c.args.at c.args.piece.now in
    rw (← drop-drop 1 c.args.at c.args.piece.now)
    (λ e. no_pairs may_quote 64 text _ (omega arith) (quote_lanes 64 text (omega (arith, long, c.requires)))
    (not_any _ e))
