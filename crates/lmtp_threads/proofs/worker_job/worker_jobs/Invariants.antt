use Rattle.std.proofs.Common.{◌≡◌, ◌+◌, ◌++◌, vec_len, vec_items}
use Rattle.std.specs.Arc.{arc_value}
use Rattle.std.specs.Vec.Iter.{into_iter_items, into_iter_len}
use Rattle.lmtp_threads.specs.Grid.{lists}
use Rattle.lmtp_threads.specs.Works.{share_of}
use Rattle.lmtp_threads.specs.ByThread.{tasks_with}
use Rattle.lmtp_threads.proofs.worker_job.worker_jobs.Given as goal

-- the jobs of the first threads, and the tasks of those that are left
abbrev pub invariant-loop-receiver : goal.invariant-loop-receiver
invariant-loop-receiver g l = record {
  count : l.thread + into_iter_len l.receiver-iterator ≡ vec_len l.fn.receivers;
  with_rows : into_iter_len l.rows ≡ into_iter_len l.receiver-iterator;
  with_boxes : into_iter_len l.boxes ≡ into_iter_len l.receiver-iterator;
  whole : vec_items l.jobs ++ tasks_with (share_of (arc_value l.fn.shared.site) (arc_value l.fn.quotas)) l.fn.room l.thread (into_iter_items l.receiver-iterator)
      (lists (into_iter_items l.rows)) (lists (into_iter_items l.boxes))
      ≡ tasks_with (share_of (arc_value l.fn.shared.site) (arc_value l.fn.quotas)) l.fn.room 0 (vec_items l.fn.receivers) (lists (vec_items l.fn.rows)) (lists (vec_items l.fn.boxes));
}
