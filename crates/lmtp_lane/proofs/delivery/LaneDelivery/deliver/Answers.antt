use Rattle.std.proofs.Common.{◌≤◌, List, ℕ, ap, subst, ◌∙◌}
use Rattle.mail_world.specs.declared.limits.TheConstants.{RECIPIENT_LIMIT}
use Rattle.mail_world.specs.Lists.{Transaction}
use Rattle.msg_depot.specs.declared.view.Claim.{Claim}
use Rattle.lmtp_lane.specs.LaneExchange.{ends_of, sending_of, sent_as}
use Rattle.lmtp_lane.specs.LaneAccount.{told_by}
use Rattle.lmtp_lane.proofs.Delivering.{told_answers, delivered}
use Rattle.lmtp_lane.proofs.delivery.LaneDelivery.deliver.Goals as goal

pub returns-clause-delivers : goal.returns-clause-delivers
returns-clause-delivers g c =
    let self = c.args.self.now in
    let new = c.send.new.self in
    let sent : List ℕ → Transaction = λ bytes. sent_as self.accepted c.args.session.now.session self.moment bytes in
    delivered (sent c.args.counted.bytes) (sent c.seal-hold.result.bytes) (told_by new.gather.gather) (ends_of self.exchange) (sending_of new)
    (ap sent c.seal-hold.ensures.0 ∙ ap (λ (d : Claim). sent d.bytes) c.counted.view_is) (subst (λ n. n ≤ RECIPIENT_LIMIT) c.recipient_count.ensures.count c.recipient_count.ensures.bound)
    (told_answers new.gather.gather c.send.ensures.done) c.send.ensures.way
