use Rattle.std.proofs.Common.{◌≡◌, take}
use Rattle.mail_world.specs.Replies.{reply_texts}
use Rattle.lmtp_talk.specs.Saying.{Says}
use Rattle.lmtp_talk.proofs.outbox.Outbox.say_answers.Given as goal

abbrev pub invariant-loop-i : goal.invariant-loop-i
invariant-loop-i g l = record {
  goes : (g.P.Peer.state l.peer).stops ≡ (g.P.Peer.state l.initial.peer).stops;
  reads : (g.P.Peer.state l.peer).reads ≡ (g.P.Peer.state l.initial.peer).reads;
  says : Says (g.P.Peer.state l.initial.peer) (g.P.Peer.state l.peer) l.initial.self l.self (reply_texts l.session.site (take l.i l.session.answers));
}
