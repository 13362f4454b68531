use Rattle.lmtp_lane.specs.LaneExchange.{ends_of}
use Rattle.lmtp_lane.proofs.Accounting.{offered_start}
use Rattle.lmtp_lane.proofs.delivery.LaneDelivery.new.Goals as goal

pub returns-clause-begun : goal.returns-clause-begun
returns-clause-begun g c = offered_start g.S.LaneStart.site g.S.LaneStart.May g.S.LaneStart.ends (ends_of c.args.exchange) c.requires.start
