use Rattle.std.proofs.Common.{List, ℕ, ap, ◌≡◌, ◌∙◌, ◌+◌, ◌-◌, ◌<◌, length, arith}
use Rattle.mail_world.specs.Lists.{Transaction}
use Rattle.lmtp_lane.specs.LaneExchange.{sending_of, sent_as}
use Rattle.lmtp_lane.proofs.Awaiting.{offered_next, offered_last, keeps_then}
use Rattle.lmtp_lane.proofs.exchange.Exchange.offer_all.Goals as goal

pub loop-place-preserved : goal.loop-place-preserved
loop-place-preserved g c =
    let self = c.args.self.now in
    let now = c.loop-place.self in
    let new = c.offer_at.new.self in
    let session = c.args.session.now.session in
    let sent : List ℕ → Transaction = λ bytes. sent_as c.args.mark.number session c.args.mark.moment bytes in
    let within : c.loop-place.place + 1 < length session.recipients =
    omega (arith, c.loop-place-test.true, c.recipient_count-last.ensures.count, c.requires.some) in
    record {
      weight = omega (arith, c.split_one-one.ensures.left.1, c.loop-place.invariant.weight);
      bytes = c.split_one-one.ensures.left.0 ∙ c.loop-place.invariant.bytes;
      room = keeps_then (sending_of self) (sending_of now) (sending_of new) c.loop-place.invariant.room c.offer_at.ensures.room;
      way = offered_next self.lane now.lane (sent c.args.hold.bytes) (sent c.split_one-one.result.bytes) c.loop-place.place
          (sending_of self) (sending_of now) (sending_of new) c.loop-place.invariant.room.lane
          (ap sent (c.split_one-one.ensures.new.0 ∙ c.loop-place.invariant.bytes)) (omega (arith, within)) c.loop-place.invariant.way c.offer_at.ensures.way;
    }

pub returns-clause-way : goal.returns-clause-way
returns-clause-way g c =
    let self = c.args.self.now in
    let now = c.loop-place.self in
    let new = c.offer_at-2.new.self in
    let session = c.args.session.now.session in
    let sent : List ℕ → Transaction = λ bytes. sent_as c.args.mark.number session c.args.mark.moment bytes in
    let last : c.loop-place.place + 1 ≡ length session.recipients =
    omega (arith, c.loop-place-test.false, c.loop-place.auto.place-end, c.recipient_count-last.ensures.count, c.requires.some) in
    let at : c.recipient_count-last.result - 1 ≡ c.loop-place.place = omega (arith, last, c.recipient_count-last.ensures.count) in
    offered_last self.lane now.lane (sent c.args.hold.bytes) (sent c.loop-place.hold.bytes) c.loop-place.place (c.recipient_count-last.result - 1)
    (sending_of self) (sending_of now) (sending_of new) c.loop-place.invariant.room.lane (ap sent c.loop-place.invariant.bytes) at last
    c.loop-place.invariant.way c.offer_at-2.ensures.way
