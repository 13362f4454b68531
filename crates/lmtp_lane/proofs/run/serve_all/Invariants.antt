use Rattle.std.proofs.Common.{◌≡◌, false}
use Rattle.lmtp_talk.specs.Peer.{PeerState}
use Rattle.lmtp_talk.specs.Served.{terms}
use Rattle.lmtp_lane.specs.LaneExchange.{ends_of}
use Rattle.lmtp_lane.specs.LaneAccount.{AgreesWith, HasOffered}
use Rattle.lmtp_lane.proofs.Visiting.{HasCalled}
use Rattle.lmtp_lane.proofs.run.serve_all.Given as goal

-- these clients were served, and the delivery has come to their messages
abbrev pub invariant-loop : goal.invariant-loop
invariant-loop g l =
    let S = g.S.LaneStart in
    record {
      here : l.dialogue.session.site ≡ S.site;
      none_out : g.V.Visits.out l.visits ≡ false;
      others : (peer : PeerState) → g.V.Visits.MayGive l.visits peer → g.V.Visits.MayGive l.initial.visits peer;
      called : HasCalled (terms S.site l.reads) (g.V.Visits.MayGive l.initial.visits) (g.V.Visits.finished l.initial.visits) (g.V.Visits.finished l.visits)
          (g.O.Observer.told l.initial.observer) (g.O.Observer.told l.observer)
          (λ n ts. HasOffered S.site S.May l.delivery.accepted S.ends (ends_of l.delivery.exchange) n ts
          × AgreesWith (g.C.Clock.May l.delivery.clock.now) S.May) l.conversations;
    }
