use Rattle.std.proofs.Common.{◌-◌, length}
use Rattle.block_arena.specs.Calls.{depot_key}
use Rattle.block_arena.proofs.Puts.{IsPutUpTo}
use Rattle.block_arena.proofs.arena.Arena.put_all.Given as goal

abbrev pub invariant-loop-done : goal.invariant-loop-done
invariant-loop-done l = IsPutUpTo l.fn.self (depot_key l.fn.key) l.fn.bytes l.done l.self

abbrev pub decreases-loop-done : goal.decreases-loop-done
decreases-loop-done l = length l.fn.bytes - l.done
