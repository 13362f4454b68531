use Rattle.std.proofs.Common.{◌≡◌}
use Rattle.block_arena.specs.Fields.{node}
use Rattle.block_arena.proofs.arena.messages.block_at.Given as goal

abbrev pub invariant-loop-i : goal.invariant-loop-i
invariant-loop-i l = l.block ≡ node l.i l.next l.fn.first
