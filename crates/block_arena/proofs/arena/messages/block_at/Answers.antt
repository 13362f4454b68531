use Rattle.std.proofs.Common.{refl, sym}
use Rattle.block_arena.proofs.Reading.{node_low_as, node_next_as}
use Rattle.block_arena.proofs.arena.messages.block_at.Goals as goal

pub bounds-next-block : goal.bounds-next-block
bounds-next-block c = node_low_as _ c.args.n c.loop-i.i c.args.next.now c.args.first _ c.loop-i.invariant c.requires c.loop-i-test.true

pub loop-i-preserved : goal.loop-i-preserved
loop-i-preserved c = sym (node_next_as c.loop-i.i c.args.next.now c.args.first c.loop-i.block 0 c.loop-i.invariant refl)
