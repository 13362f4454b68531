use Rattle.std.proofs.Common.{◌-◌}
use Rattle.block_arena.proofs.Reading.{Reads, whole}
use Rattle.block_arena.proofs.arena.messages.copy_run.Given as goal

abbrev pub invariant-loop-done : goal.invariant-loop-done
invariant-loop-done l = Reads l.store l.next
    (record { all = whole l.store l.next l.fn.run.blocks l.fn.run.first; total = l.total; at = l.fn.at; start = l.fn.out })
    (record { out = l.out; done = l.done; from = l.skip; block = l.block })

abbrev pub decreases-loop-done : goal.decreases-loop-done
decreases-loop-done l = l.total - l.done
