use Rattle.std.proofs.Common.{◌++◌, refl}
use Rattle.lmtp_talk.specs.Parties.{parties}
use Rattle.lmtp_talk.proofs.Rounds.{stands_flushed}
use Rattle.lmtp_talk.proofs.conversation.take_piece.Goals as goal

pub returns-clause-handles : goal.returns-clause-handles
returns-clause-handles g c site start first handled h =
    let said = parties (g.P.Peer.state c.handle.new.peer) (g.O.Observer.told c.handle.new.observer) in
    let after = parties (g.P.Peer.state c.flush.new.peer) (g.O.Observer.told c.handle.new.observer) in
    let came = handled ++ c.args.piece.now in
    stands_flushed site start said after (g.D.Delivery.HasCome first)
    (g.D.Delivery.HasCome c.handle.new.delivery) (g.D.Delivery.IsDrafting c.handle.new.delivery)
    c.handle.new.dialogue c.flush.new.self came came (λ text x. c.flush.ensures.said start.peer came text x) c.flush.ensures.goes refl
    (c.handle.ensures.stands site start first handled came h)
