use Rattle.std.proofs.Common.{◌≡◌, ◌+◌, ◌≤◌, ◌++◌, List, vec_len, vec_items, vec_capacity}
use Rattle.std.specs.List.{AllZip}
use Rattle.std.specs.Vec.Iter.{into_iter_items, into_iter_len}
use Rattle.lmtp_threads.specs.Works.{spools_view}
use Rattle.lmtp_threads.specs.ThreadWork.{IsKept}
use Rattle.lmtp_threads.proofs.by_thread.keep_all.Given as goal

-- the first mailboxes are kept, and there is room for the rest
abbrev pub invariant-loop-own : goal.invariant-loop-own
invariant-loop-own g l = record {
  room : vec_len l.kept + into_iter_len l.own-iterator ≤ vec_capacity l.kept;
  done : (before : List _) × (before ++ into_iter_items l.own-iterator ≡ vec_items l.fn.boxes)
      × AllZip (IsKept (spools_view g.S.Spool.state g.S.Spool.MayFind g.S.Spool.MayRefuse g.T.TurnObserver.told) l.fn.quotas) before (vec_items l.kept);
}
