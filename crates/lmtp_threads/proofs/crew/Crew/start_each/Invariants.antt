use Rattle.std.proofs.Common.{◌≡◌, ◌++◌, ◌≤◌, ◌+◌, length, vec_items}
use Rattle.std.specs.List.{AllByRecursion}
use Rattle.std.specs.Vec.Iter.{into_iter_items, into_iter_len}
use Rattle.lmtp_threads.proofs.crew.Crew.start_each.Given as goal

-- the tasks that have started, and those that are left
abbrev pub invariant-loop-task : goal.invariant-loop-task
invariant-loop-task g l = record {
  room : length l.self.tasks + into_iter_len l.task-iterator ≤ l.self.room;
  ready : AllByRecursion (λ task. g.T.Task.ready task) (into_iter_items l.task-iterator);
  whole : l.self.tasks ++ into_iter_items l.task-iterator ≡ vec_items l.fn.tasks;
}
