use Rattle.std.proofs.Common.{arith, ◌≡◌, [], ◌∷◌, ◌++◌, ap, refl, vec_items}
use Rattle.std.specs.Vec.Iter.{into_iter_items}
use Rattle.mail_post.specs.Channel.{AreSenders}
use Rattle.lmtp_threads.specs.Grid.{lists}
use Rattle.lmtp_threads.specs.Channels.{IsShut}
use Rattle.lmtp_threads.proofs.Pairs.{AllZip-snoc}
use Rattle.lmtp_threads.proofs.MovedLists.{All-first, All-rest, move_same}
use Rattle.lmtp_threads.proofs.channels.close_columns.Goals as goal

pub close_channel-requires : goal.close_channel-requires
close_channel-requires g c =
    All-first AreSenders (lists (into_iter_items c.loop-senders.senders-iterator)) (lists (into_iter_items c.next.new.self)) (vec_items c.in-Some.senders)
    (ap lists c.in-Some.ensures.steps.0) c.loop-senders.invariant.all

pub loop-senders-preserved : goal.loop-senders-preserved
loop-senders-preserved g c =
    let was = c.loop-senders.invariant in
    let steps = c.in-Some.ensures.steps in
    let rest = lists (into_iter_items c.loop-senders.senders-iterator) in
    let rest' = lists (into_iter_items c.next.new.self) in
    let senders = vec_items c.in-Some.senders in
    let pushed = c.push_reserved.ensures in
    let is : rest ≡ senders ∷ rest' = ap lists steps.0 in
    let shut : IsShut senders c.close_channel.result =
    record { channel = c.close_channel.ensures.channel; sent = c.close_channel.ensures.sent; sent_at = c.close_channel.ensures.sent_at } in record {
      room = omega (arith, was.room, steps.1, pushed.len, pushed.capacity);
      all = All-rest AreSenders rest rest' senders is was.all;
      done = (
        was.done.0 ++ senders ∷ [],
        move_same was.done.0 (was.done.0 ++ senders ∷ []) (lists (vec_items c.args.columns)) rest rest' senders was.done.1 is refl,
        rw pushed.items (AllZip-snoc IsShut was.done.0 (vec_items c.loop-senders.closed) senders c.close_channel.result was.done.2 shut),
      );
    }
