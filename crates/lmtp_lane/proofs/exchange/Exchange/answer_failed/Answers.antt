use Rattle.std.proofs.Common.{refl, ap}
use Rattle.mail_post.specs.Gathering.{Gathering}
use Rattle.lmtp_lane.specs.LaneExchange.{sending_of}
use Rattle.lmtp_lane.proofs.Awaiting.{same_room, takes_open}
use Rattle.lmtp_lane.proofs.exchange.Exchange.answer_failed.Goals as goal

pub returns-in-Ok-clause-room : goal.returns-in-Ok-clause-room
returns-in-Ok-clause-room g c =
    same_room (sending_of c.args.self.now) c.args.self.now.slips c.args.self.now.gone c.put.new.self.gather c.args.slip
    (ap (λ (x : Gathering). x.gather) c.put.ensures.gathered)

pub returns-in-Err-clause-room : goal.returns-in-Err-clause-room
returns-in-Err-clause-room g c =
    same_room (sending_of c.args.self.now) c.args.self.now.slips c.args.self.now.gone c.put.new.self.gather c.args.slip
    (ap (λ (x : Gathering). x.gather) c.put.ensures.gathered)

pub returns-in-Ok-clause-takes : goal.returns-in-Ok-clause-takes
returns-in-Ok-clause-takes g c =
    takes_open c.args.slip c.args.self.now.gather.gather c.put.new.self.gather (c.in-Ok.ensures.ok.0 refl) c.put.ensures.heard

pub returns-in-Err-clause-takes : goal.returns-in-Err-clause-takes
returns-in-Err-clause-takes g c = ap (λ (x : Gathering). x.gather) c.in-Err.ensures.err
