use Rattle.std.proofs.Common.{◌≡◌, None}
use Rattle.mail_post.specs.Channel.{taken, HasSameTimes}
use Rattle.mail_post.proofs.channel.ChannelReceiver.take.Given as goal

abbrev pub invariant-loop : goal.invariant-loop
invariant-loop g l = record {
  channel : l.self.channel ≡ l.fn.self.channel;
  lanes : l.self.lanes ≡ l.fn.self.lanes;
  capacity : l.self.capacity ≡ l.fn.self.capacity;
  taken : taken l.self ≡ taken l.fn.self;
  times : HasSameTimes l.fn.self l.self;
  not_gone : (l.self.gone ≡ None) × (l.fn.self.gone ≡ None);
  can_next : (goal.iterator-loop g).can_next l.iterator';
  is_finite : (goal.iterator-loop g).is_finite l.iterator';
}
