use Rattle.std.proofs.Common.{◌≡◌, ◌+◌, ◌++◌, vec_len, vec_items}
use Rattle.std.specs.Arc.{arc_value}
use Rattle.std.specs.Vec.Iter.{into_iter_items, into_iter_len}
use Rattle.lmtp_threads.specs.Grid.{lists}
use Rattle.lmtp_threads.specs.Tasks.{lane_tasks}
use Rattle.lmtp_threads.proofs.lanes.lane_jobs.Given as goal

-- the jobs of the first lanes, and the tasks of those that are left
abbrev pub invariant-loop-visits : goal.invariant-loop-visits
invariant-loop-visits g l = record {
  count : l.lane + into_iter_len l.visits-iterator ≡ vec_len l.fn.visits;
  with_rows : into_iter_len l.rows ≡ into_iter_len l.visits-iterator;
  with_takers : into_iter_len l.takers ≡ into_iter_len l.visits-iterator;
  whole : vec_items l.jobs ++ lane_tasks (arc_value l.fn.shared.site) (arc_value l.fn.shared.clock) l.lane (into_iter_items l.visits-iterator)
      (lists (into_iter_items l.rows)) (into_iter_items l.takers)
      ≡ lane_tasks (arc_value l.fn.shared.site) (arc_value l.fn.shared.clock) 0 (vec_items l.fn.visits) (lists (vec_items l.fn.rows)) (vec_items l.fn.takers);
}
