use Rattle.std.proofs.Common.{◌≡◌, ◌++◌, length}
use Rattle.std.specs.Vec.Iter.{into_iter_items}
use Rattle.mail_post.specs.Channel.{AreSendersFrom, sent_by, sent_at_by}
use Rattle.mail_post.proofs.channel.close_channel.Given as goal

abbrev pub invariant-loop-sender : goal.invariant-loop-sender
invariant-loop-sender g l = record {
  rest : AreSendersFrom (length l.closed.sent) l.closed.channel (into_iter_items l.sender-iterator);
  sent : l.closed.sent ++ sent_by (into_iter_items l.sender-iterator) ≡ sent_by l.fn.senders.items;
  sent_at : l.closed.sent_at ++ sent_at_by (into_iter_items l.sender-iterator) ≡ sent_at_by l.fn.senders.items;
  all : AreSendersFrom 0 l.closed.channel l.fn.senders.items;
}
