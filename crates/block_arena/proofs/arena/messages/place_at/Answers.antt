use Rattle.std.proofs.Common.{arith}
use Rattle.block_arena.proofs.Places.{prefix_low, part_low, from_place}
use Rattle.block_arena.proofs.arena.messages.place_at.Goals as goal

pub block_at-block-requires : goal.block_at-block-requires
block_at-block-requires c = prefix_low c.args.next.now c.args.run c.args.n c.requires.low (omega (arith, c.if-run-n.false))

pub block_at-block-requires-2 : goal.block_at-block-requires-2
block_at-block-requires-2 c = part_low c.args.next.now c.args.run c.args.from c.args.n c.requires.low c.requires.from c.if-index-from.false
    (omega (arith, c.if-run-n.false))

pub returns-clause-place : goal.returns-clause-place
returns-clause-place c = from_place c.args.next.now c.args.run c.args.from c.args.n c.block_at-block-2.result c.requires.from c.if-index-from.false
    (omega (arith, c.if-run-n.false)) c.block_at-block-2.ensures
