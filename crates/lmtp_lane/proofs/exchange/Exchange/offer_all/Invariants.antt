use Rattle.std.proofs.Common.{◌≡◌, ◌+◌, length, take}
use Rattle.mail_world.specs.Slips.{txn_of}
use Rattle.mail_world.specs.Lists.{copies_from}
use Rattle.lmtp_lane.specs.LaneExchange.{sending_of, KeepsRoom, Continues, sent_as}
use Rattle.lmtp_lane.proofs.exchange.Exchange.offer_all.Given as goal

-- the copies for the first recipients are offered, and the hold is for the others
abbrev pub invariant-loop-place : goal.invariant-loop-place
invariant-loop-place g l = record {
  weight : l.hold.weight + l.place ≡ length l.session.session.recipients;
  bytes : l.hold.bytes ≡ l.fn.hold.bytes;
  room : KeepsRoom (sending_of l.initial.self) (sending_of l.self);
  way : Continues (txn_of l.initial.self.lane l.mark.number)
      (copies_from l.initial.self.lane (sent_as l.mark.number l.session.session l.mark.moment l.fn.hold.bytes) 0 (take l.place l.session.session.recipients))
      (sending_of l.initial.self) (sending_of l.self);
}
