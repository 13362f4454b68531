use Rattle.std.proofs.Common.{arith}
use Rattle.mbox_spool.proofs.Copies.{one_more}
use Rattle.mbox_spool.proofs.lines.blocks.Goals as goal

pub loop-taken-preserved : goal.loop-taken-preserved
loop-taken-preserved c = (
  one_more c.args.piece.now c.loop-taken.len c.loop-taken.taken _ _ c.loop-taken.invariant.0 c.next_lines-next.ensures.written
      c.next_lines-next.ensures.shorter (omega (arith, c.loop-taken-test.true, c.next_lines-next.ensures.block)),
  c.next_lines-next.ensures.plain,
)
