use Rattle.std.proofs.Common.{List, ℕ, ◌++◌, length, subst}
use Rattle.lmtp_wire.specs.declared.wire.Got.{Got}
use Rattle.lmtp_wire.specs.Wire.{TakesBy}
use Rattle.lmtp_talk.specs.Parties.{parties}
use Rattle.lmtp_talk.proofs.Carried.{more_of_line, line_of, long_line_of}
use Rattle.lmtp_talk.proofs.handling.take_line.Goals as goal

pub returns-in-More-clause-stands : goal.returns-in-More-clause-stands
returns-in-More-clause-stands g c site start first handled came h =
    let before = parties (g.P.Peer.state c.args.peer.now) (g.O.Observer.told c.args.observer.now) in
    let by : List ℕ → Got → Type 0 =
    λ taken got. TakesBy got c.command-took.new.self (taken ++ c.args.rest.now) (length taken) (length c.args.rest.now) c.command-took.result.used in
    more_of_line site start (g.D.Delivery.HasCome first) (g.D.Delivery.HasCome c.args.delivery.now) (g.D.Delivery.IsDrafting c.args.delivery.now)
    c.args.dialogue.now c.command-took.new.self
    before handled came c.args.rest.now c.command-took.result.used c.requires.state
    (λ taken after. subst (by taken) c.in-More.is (c.command-took.ensures.takes taken after)) h

pub returns-in-Line-clause-stands : goal.returns-in-Line-clause-stands
returns-in-Line-clause-stands g c site start first handled came h =
    let before = parties (g.P.Peer.state c.args.peer.now) (g.O.Observer.told c.args.observer.now) in
    let after = parties (g.P.Peer.state c.handle_line.new.peer) (g.O.Observer.told c.handle_line.new.observer) in
    let by : List ℕ → Got → Type 0 =
    λ taken got. TakesBy got c.command-took.new.self (taken ++ c.args.rest.now) (length taken) (length c.args.rest.now) c.command-took.result.used in
    line_of site start (g.D.Delivery.HasCome first) g.D.Delivery.HasCome g.D.Delivery.IsDrafting c.args.dialogue.now c.handle_line.new.dialogue
    c.command-took.new.self
    before after c.args.delivery.now c.handle_line.new.delivery handled came c.args.rest.now
    c.command-took.result.used c.requires.state
    (λ taken after. subst (by taken) c.in-Line.is (c.command-took.ensures.takes taken after)) c.handle_line.result c.handle_line.ensures.busy c.handle_line.ensures.takes h

pub returns-in-TooLong-clause-stands : goal.returns-in-TooLong-clause-stands
returns-in-TooLong-clause-stands g c site start first handled came h =
    let before = parties (g.P.Peer.state c.args.peer.now) (g.O.Observer.told c.args.observer.now) in
    let after = parties (g.P.Peer.state c.refuse_line.new.peer) (g.O.Observer.told c.refuse_line.new.observer) in
    let by : List ℕ → Got → Type 0 =
    λ taken got. TakesBy got c.command-took.new.self (taken ++ c.args.rest.now) (length taken) (length c.args.rest.now) c.command-took.result.used in
    long_line_of site start (g.D.Delivery.HasCome first) g.D.Delivery.HasCome g.D.Delivery.IsDrafting c.args.dialogue.now c.refuse_line.new.dialogue
    c.command-took.new.self
    before after c.args.delivery.now handled came c.args.rest.now c.command-took.result.used
    c.requires.state
    (λ taken after. subst (by taken) c.in-TooLong.is (c.command-took.ensures.takes taken after)) c.refuse_line.ensures.takes c.refuse_line.ensures.told h
