use Rattle.std.proofs.Common.{List, refl, subst}
use Rattle.std.specs.Prelude.{option_map}
use Rattle.mail_head.specs.Texts.{text_of}
use Rattle.mail_world.specs.declared.Outcome.{Outcome}
use Rattle.mail_world.specs.Session.{Outcomes}
use Rattle.lmtp_session.specs.Steps.{IsStep}
use Rattle.lmtp_talk.specs.Parties.{parties}
use Rattle.lmtp_talk.proofs.Messages.{whole_message, refused_message}
use Rattle.lmtp_talk.proofs.handling.handle_message.Goals as goal

pub returns-in-Ok-clause-ends : goal.returns-in-Ok-clause-ends
returns-in-Ok-clause-ends g c =
    let before = parties (g.P.Peer.state c.args.peer.now) (g.O.Observer.told c.args.observer.now) in
    let after = parties (g.P.Peer.state c.answer.new.peer) (g.O.Observer.told c.answer.new.observer) in
    let told : List Outcome = g.D.Delivery.outcomes c.end.new.self in
    whole_message g.D.Delivery.HasCome g.D.Delivery.IsDrafting c.args.dialogue.now _ c.data_done.new.self before
    after
    c.args.delivery.now c.end.new.self (g.D.Delivery.moment c.end.new.self) told c.data_done.result c.outcomes-answered.result c.number-number.result
    c.size-size.result (option_map (λ t. text_of t) c.message_id-message_id.result)
    c.in-Ok.ensures.ended c.in-Ok.ensures.count c.data_done.ensures.step
    (subst (λ (os : List Outcome). IsStep c.data_done.new.self (Outcomes os) c.outcomes-answered.result c.outcomes-answered.new.self) c.outcomes.ensures
    c.outcomes-answered.ensures.step) refl c.answer.ensures.goes c.answer.ensures.says c.number-number.ensures c.size-size.ensures
    c.message_id-message_id.ensures c.answer.ensures.told

pub returns-in-Err-clause-ends : goal.returns-in-Err-clause-ends
returns-in-Err-clause-ends g c =
    let before = parties (g.P.Peer.state c.args.peer.now) (g.O.Observer.told c.args.observer.now) in
    let after = parties (g.P.Peer.state c.answer-in-Err.new.peer) (g.O.Observer.told c.answer-in-Err.new.observer) in
    refused_message g.D.Delivery.HasCome g.D.Delivery.IsDrafting c.args.dialogue.now _ before
    after
    c.args.delivery.now c.end.new.self c.in-Err.verdict (g.D.Delivery.moment c.end.new.self) (g.D.Delivery.outcomes c.end.new.self) c.data_done-refused.result
    c.number-number.result c.size-size.result (option_map (λ t. text_of t) c.message_id-message_id.result)
    c.in-Err.ensures.refused c.in-Err.ensures.ended c.data_done-refused.ensures.step refl c.answer-in-Err.ensures.goes c.answer-in-Err.ensures.says
    c.number-number.ensures c.size-size.ensures c.message_id-message_id.ensures c.answer-in-Err.ensures.told
