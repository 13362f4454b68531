use Rattle.std.proofs.Common.{subst, arith}
use Rattle.mail_world.specs.declared.Slip.{Slip}
use Rattle.lmtp_lane.specs.LaneExchange.{sending_of, GathersOne}
use Rattle.lmtp_lane.proofs.Awaiting.{answered_next}
use Rattle.lmtp_lane.proofs.exchange.Exchange.answer_next.Goals as goal

pub returns-then-place-recipient_count-clause-way : goal.returns-then-place-recipient_count-clause-way
returns-then-place-recipient_count-clause-way g c =
    let self = c.args.self.now in
    let new = c.answer_failed.new.self in
    let T : Slip → Type 0 = λ s. GathersOne s self.gather.gather new.gather.gather c.answer_failed.result in
    answered_next c.args.number c.args.place c.recipient.result c.args.session.now.session (sending_of self) (sending_of new) c.answer_failed.result
    (omega (arith, c.if-place-recipient_count.true, c.recipient_count.ensures.count)) c.recipient.ensures.mailbox
    c.requires.gone c.answer_failed.ensures.same (subst T c.failed-slip.ensures c.answer_failed.ensures.takes)
