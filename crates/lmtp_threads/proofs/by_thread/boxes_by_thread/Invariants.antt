use Rattle.std.proofs.Common.{◌≡◌, ◌+◌, ◌++◌, ℕ, List, Some, vec_len, vec_items}
use Rattle.std.specs.Prelude.{slice_get}
use Rattle.std.specs.Vec.Iter.{into_iter_items, into_iter_len}
use Rattle.lmtp_threads.specs.Grid.{lists}
use Rattle.lmtp_threads.specs.ByThread.{owned}
use Rattle.lmtp_threads.proofs.by_thread.boxes_by_thread.Given as goal

-- what each thread has of the first mailboxes, and what it will have of those that are left
abbrev pub invariant-loop-spool : goal.invariant-loop-spool
invariant-loop-spool g l = record {
  so_far : l.number + into_iter_len l.spool-iterator ≡ vec_len l.fn.spools;
  with_gates : into_iter_len l.gates ≡ into_iter_len l.spool-iterator;
  threads : vec_len l.boxes ≡ l.threads;
  each : (t : ℕ) (own : List _) → slice_get (lists (vec_items l.boxes)) t ≡ Some own
      → own ++ owned l.threads t l.number (into_iter_items l.spool-iterator) ≡ owned l.threads t 0 (vec_items l.fn.spools);
}
