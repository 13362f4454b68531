use Rattle.std.proofs.Common.{ap, sym, ◌∙◌}
use Rattle.std.specs.Prelude.{is_some}
use Rattle.mail_post.specs.Gathering.{Gathering}
use Rattle.lmtp_lane.specs.LaneExchange.{sending_of}
use Rattle.lmtp_lane.proofs.Awaiting.{heard_next, nothing_then, same_room}
use Rattle.lmtp_lane.proofs.exchange.Exchange.hear_next.Goals as goal

pub returns-in-Ok-clause-way : goal.returns-in-Ok-clause-way
returns-in-Ok-clause-way g c =
    heard_next c.args.number c.args.session.now.session (sending_of c.args.self.now) c.take_slip.new.slips c.put.new.self.gather c.in-Ok.slip
    c.take_slip.ensures.same c.in-Ok.ensures.post (c.in-Ok.ensures.open_still.1 ∙ sym c.in-Ok.ensures.open_still.0) c.in-Ok.ensures.timed c.put.ensures.heard

pub returns-in-Err-clause-way : goal.returns-in-Err-clause-way
returns-in-Err-clause-way g c =
    nothing_then c.args.number c.args.session.now.session (sending_of c.args.self.now) (sending_of c.answer_next.new.self) c.take_slip.new.slips
    c.take_slip.ensures.same c.in-Err.ensures.nothing (ap is_some c.in-Err.ensures.gone) c.in-Err.ensures.no_time c.answer_next.ensures.way

pub returns-in-Ok-clause-room : goal.returns-in-Ok-clause-room
returns-in-Ok-clause-room g c =
    same_room (sending_of c.args.self.now) c.take_slip.new.slips c.args.self.now.gone c.put.new.self.gather c.in-Ok.slip
    (ap (λ (x : Gathering). x.gather) c.put.ensures.gathered)
