use Rattle.std.proofs.Common.{sym, subst}
use Rattle.std.specs.List.{AllByRecursion}
use Rattle.lmtp_threads.specs.Tasks.{IsThreadReady}
use Rattle.lmtp_threads.specs.ByThread.{IsOwner}
use Rattle.lmtp_threads.proofs.MovedLists.{each_both}
use Rattle.lmtp_threads.proofs.workers.Workers.start.Goals as goal

pub start_all-requires-clause-ready : goal.start_all-requires-clause-ready
start_all-requires-clause-ready g c κs within =
    each_both (λ t. IsThreadReady t) (λ t. IsOwner t) _ (subst (λ l. AllByRecursion (λ t. IsThreadReady t) l) (sym c.self.view_is) c.requires)
    c.self.invariant.3
