use Rattle.std.proofs.Common.{arith, vec_items}
use Rattle.std.proofs.lemmas.List.{map-append}
use Rattle.lmtp_threads.specs.Channels.{IsNewChannel}
use Rattle.lmtp_threads.specs.Grid.{lists}
use Rattle.lmtp_threads.proofs.Pairs.{AllZip-snoc}
use Rattle.lmtp_threads.proofs.channels.open_columns.Goals as goal

pub loop-preserved : goal.loop-preserved
loop-preserved g c =
    let was = c.loop.invariant in
    let columns = vec_items c.loop.columns in
    let senders = c.in_ok-senders.senders in
    let new : IsNewChannel c.args.capacity c.args.lanes (vec_items senders) c.in_ok-senders.receiver =
    record { senders_are = c.in_ok-senders.ensures.senders; inbox_is = c.in_ok-senders.ensures.receiver } in
    let channel =
    AllZip-snoc (IsNewChannel c.args.capacity c.args.lanes) (lists columns) (vec_items c.loop.receivers) (vec_items senders) c.in_ok-senders.receiver
    was.channels new in record {
      count = omega (arith, was.count, c.in_ok-push-2.ensures.len);
      channels = rw (c.in_ok-push.ensures.items, c.in_ok-push-2.ensures.items, map-append) channel;
    }
