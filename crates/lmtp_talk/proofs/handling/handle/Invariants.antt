use Rattle.std.proofs.Common.{◌≡◌, ◌≤◌, ◌-◌, length, take}
use Rattle.lmtp_talk.specs.Steps.{Advances, talk}
use Rattle.lmtp_talk.specs.Parties.{parties}
use Rattle.lmtp_talk.proofs.handling.handle.Given as goal

-- the bytes up to there are handled
abbrev pub invariant-loop-at : goal.invariant-loop-at
invariant-loop-at g l = record {
  within : l.at ≤ length l.piece;
  site : l.dialogue.session.site ≡ l.initial.dialogue.session.site;
  same : g.D.Delivery.site l.delivery ≡ g.D.Delivery.site l.initial.delivery;
  reads : (g.P.Peer.state l.peer).reads ≡ (g.P.Peer.state l.initial.peer).reads;
  stands : Advances g.D.Delivery.HasCome g.D.Delivery.IsDrafting
      (talk l.initial.dialogue (parties (g.P.Peer.state l.initial.peer) (g.O.Observer.told l.initial.observer)) l.initial.delivery)
      (talk l.dialogue (parties (g.P.Peer.state l.peer) (g.O.Observer.told l.observer)) l.delivery) (take l.at l.piece);
}

abbrev pub decreases-loop-at : goal.decreases-loop-at
decreases-loop-at g l = length l.piece - l.at
