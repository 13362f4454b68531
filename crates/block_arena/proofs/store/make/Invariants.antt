use Rattle.std.proofs.Common.{vec_len, vec_capacity}
use Rattle.block_arena.proofs.Stored.{IsMaking}
use Rattle.block_arena.proofs.store.make.Given as goal

abbrev pub invariant-loop-block : goal.invariant-loop-block
invariant-loop-block l = IsMaking l.fn.made.items (vec_capacity l.fn.made) l.fn.count l.made.items (vec_len l.made) (vec_capacity l.made) l.block
