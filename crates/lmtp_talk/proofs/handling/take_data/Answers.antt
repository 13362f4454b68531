use Rattle.std.proofs.Common.{List, ℕ, ◌++◌, take, subst}
use Rattle.std.specs.Prelude.{Bool}
use Rattle.lmtp_wire.specs.Dot.{HasFed}
use Rattle.lmtp_talk.specs.Parties.{parties}
use Rattle.lmtp_talk.proofs.CarriedData.{more_of_data, end_of_data}
use Rattle.lmtp_talk.proofs.handling.take_data.Goals as goal

pub returns-then-fed-clause-stands : goal.returns-then-fed-clause-stands
returns-then-fed-clause-stands g c site start first handled came h =
    let before = parties (g.P.Peer.state c.args.peer.now) (g.O.Observer.told c.args.observer.now) in
    let after = parties (g.P.Peer.state c.handle_message.new.peer) (g.O.Observer.told c.handle_message.new.observer) in
    let takes = c.take-fed.ensures.takes in
    let used : ℕ = c.take-fed.result.used in
    let by : List ℕ → List ℕ → Bool → Type 0 = λ taken made b. HasFed c.take-fed.new.dot (taken ++ take used c.args.rest.now) (made ++ takes.text) b in
    end_of_data site start (g.D.Delivery.HasCome first) g.D.Delivery.HasCome g.D.Delivery.IsDrafting c.args.dialogue.now c.handle_message.new.dialogue
    c.take-fed.new.dot
    before after c.args.delivery.now c.take-fed.new.self c.handle_message.new.delivery
    handled came c.args.rest.now takes.text used c.requires.state
    (λ taken made after. subst (by taken made) c.if-fed.true (takes.feeds taken made after)) takes.drafts c.handle_message.ensures.ends h

pub returns-else-fed-clause-stands : goal.returns-else-fed-clause-stands
returns-else-fed-clause-stands g c site start first handled came h =
    let before = parties (g.P.Peer.state c.args.peer.now) (g.O.Observer.told c.args.observer.now) in
    let takes = c.take-fed.ensures.takes in
    let used : ℕ = c.take-fed.result.used in
    let by : List ℕ → List ℕ → Bool → Type 0 = λ taken made b. HasFed c.take-fed.new.dot (taken ++ take used c.args.rest.now) (made ++ takes.text) b in
    more_of_data site start (g.D.Delivery.HasCome first) g.D.Delivery.HasCome g.D.Delivery.IsDrafting c.args.dialogue.now c.take-fed.new.dot
    before c.args.delivery.now c.take-fed.new.self handled came c.args.rest.now takes.text used c.requires.state
    (λ taken made after. subst (by taken made) c.if-fed.false (takes.feeds taken made after)) takes.drafts h
