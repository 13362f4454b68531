use Rattle.lmtp_lane.proofs.Delivering.{told_same}
use Rattle.lmtp_lane.proofs.delivery.LaneDeliveryDelivery.outcomes.Goals as goal

pub returns : goal.returns
returns g c = told_same c.args.self.now.exchange.gather.gather.places c.answers.result.now c.answers.ensures.places
