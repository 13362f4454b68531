use Rattle.std.proofs.Common.{◌≡◌, ◌++◌, ◌≤◌, ◌+◌, List, map, true, vec_len, vec_items, vec_capacity}
use Rattle.std.specs.List.{AllZip}
use Rattle.std.specs.Vec.Iter.{into_iter_items, into_iter_len}
use Rattle.lmtp_threads.proofs.crew.Crew.join.Given as goal

-- the threads that were joined are those of the first tasks, and there is room for the rest
abbrev pub invariant-loop-handle : goal.invariant-loop-handle
invariant-loop-handle g l =
    (l.is_whole ≡ true → (joined : List _)
    × (joined ++ map (λ h. h.promise.0.value) (into_iter_items l.handle-iterator) ≡ l.fn.self.tasks)
    × AllZip g.T.Task.done joined (vec_items l.results))
    × (vec_len l.results + into_iter_len l.handle-iterator ≤ vec_capacity l.results)
