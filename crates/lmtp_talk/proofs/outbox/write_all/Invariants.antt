use Rattle.std.proofs.Common.{◌≡◌, length}
use Rattle.lmtp_talk.proofs.Written.{GivenUpTo}
use Rattle.lmtp_talk.proofs.outbox.write_all.Given as goal

abbrev pub invariant-loop-rest : goal.invariant-loop-rest
invariant-loop-rest g l = record {
  given : GivenUpTo (g.P.Peer.state l.initial.peer) (g.P.Peer.state l.peer) l.fn.bytes l.rest;
  reads : (g.P.Peer.state l.peer).reads ≡ (g.P.Peer.state l.initial.peer).reads;
}

abbrev pub decreases-loop-rest : goal.decreases-loop-rest
decreases-loop-rest g l = length l.rest
