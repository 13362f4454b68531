use Rattle.std.proofs.Common.{◌≡◌}
use Rattle.block_arena.specs.Fields.{links}
use Rattle.block_arena.proofs.arena.counted.Given as goal

abbrev pub invariant-loop-block : goal.invariant-loop-block
invariant-loop-block l = l.next.items ≡ links 1 l.block
