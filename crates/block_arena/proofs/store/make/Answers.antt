use Rattle.std.proofs.Common.{refl}
use Rattle.block_arena.proofs.Stored.{making_on}
use Rattle.block_arena.proofs.store.make.Goals as goal

pub loop-block-preserved : goal.loop-block-preserved
loop-block-preserved c = making_on _ _ _ _ _ _ _ _ _ _ _ c.loop-block.invariant c.loop-block-test.true c.push_reserved.ensures.items c.push_reserved.ensures.len
    c.push_reserved.ensures.capacity refl
