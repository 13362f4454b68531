use Rattle.std.proofs.Common.{[], subst}
use Rattle.mail_world.specs.declared.Txn.{Txn}
use Rattle.mail_post.specs.Gathering.{HasGathered}
use Rattle.lmtp_lane.specs.LaneExchange.{ends_of, sending_of}
use Rattle.lmtp_lane.proofs.Awaiting.{sent_way}
use Rattle.lmtp_lane.proofs.exchange.Exchange.send.Goals as goal

pub returns-clause-way : goal.returns-clause-way
returns-clause-way g c =
    let B : Txn → Type 0 = λ t. HasGathered t c.recipient_count.result [] c.begin.new.self.gather in
    sent_way c.args.mark.number c.args.session.now.session c.args.mark.moment c.args.hold.bytes c.recipient_count.result (ends_of c.args.self.now)
    c.begin.new.self.gather
    (sending_of c.offer_all.new.self) (sending_of c.collect.new.self) c.offer_all.ensures.room.lane c.recipient_count.ensures.count
    (subst B c.txn-txn.ensures (c.begin.ensures.heard [] tt)) c.offer_all.ensures.way c.collect.ensures.way
