use Rattle.std.proofs.Common.{sym, ◌∙◌}
use Rattle.mbox_spool.specs.Tail.{ending_of}
use Rattle.mbox_spool.proofs.Tails.{line_ended}
use Rattle.mbox_spool.proofs.tail.after_lf.Goals as goal

pub returns-then-ends_with : goal.returns-then-ends_with
returns-then-ends_with c =
    line_ended (ending_of c.args.tail) c.args.piece.now _ (sym c.is_empty.ensures ∙ c.if-is_empty.false) (sym c.if-ends_with.true ∙ c.ends_with.ensures.value)

pub returns-else-ends_with : goal.returns-else-ends_with
returns-else-ends_with c =
    line_ended (ending_of c.args.tail) c.args.piece.now _ (sym c.is_empty.ensures ∙ c.if-is_empty.false) (sym c.if-ends_with.false ∙ c.ends_with.ensures.value)
