use Rattle.std.proofs.Common.{◌≡◌, replicate}
use Rattle.block_arena.specs.declared.slot.TheConstants.{UNUSED}
use Rattle.block_arena.proofs.arena.unused.Given as goal

abbrev pub invariant-loop-block : goal.invariant-loop-block
invariant-loop-block l = l.stamps.items ≡ replicate l.block UNUSED
