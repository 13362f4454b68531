use Rattle.std.proofs.Common.{vec_items}
use Rattle.std.specs.List.{AllZip}
use Rattle.std.specs.Vec.Iter.{into_iter_items}
use Rattle.lmtp_threads.specs.Channels.{CanSettle, IsSettled}
use Rattle.lmtp_threads.proofs.channels.settle_all.Given as goal

-- once those that are left are settled, all are
abbrev pub invariant-loop-receiver : goal.invariant-loop-receiver
invariant-loop-receiver g l = record {
  can : AllZip CanSettle (into_iter_items l.receiver-iterator) (into_iter_items l.closed);
  settled : AllZip (IsSettled g.M.FromSender.sender) (into_iter_items l.receiver-iterator) (into_iter_items l.closed)
      → AllZip (IsSettled g.M.FromSender.sender) (vec_items l.fn.receivers) (vec_items l.fn.closed);
}
