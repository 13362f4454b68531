use Rattle.std.proofs.Common.{[], refl}
use Rattle.lmtp_talk.specs.Parties.{parties}
use Rattle.lmtp_talk.proofs.Rounds.{begins}
use Rattle.lmtp_talk.proofs.Counting.{read_from}
use Rattle.lmtp_talk.proofs.conversation.serve.Goals as goal

pub returns-clause-serves : goal.returns-clause-serves
returns-clause-serves g c =
    let site = c.args.dialogue.now.session.site in
    let start = g.P.Peer.state c.args.peer.now in
    let told = g.O.Observer.told c.args.observer.now in
    c.take_rounds-end.ensures.ends site (parties start told) c.args.delivery.now []
    (begins site start (g.P.Peer.state c.greet.new.peer) told (g.D.Delivery.HasCome c.args.delivery.now) (g.D.Delivery.IsDrafting c.args.delivery.now)
    c.args.dialogue.now c.greet.new.dialogue refl c.greet.ensures.greets)

pub returns-clause-reads : goal.returns-clause-reads
returns-clause-reads g c = read_from c.args.reads (g.P.Peer.state c.args.peer.now) (g.P.Peer.state c.greet.new.peer) (g.P.Peer.state c.take_rounds-end.new.peer)
    c.take_rounds-end.result c.greet.ensures.reads c.take_rounds-end.ensures.reads
