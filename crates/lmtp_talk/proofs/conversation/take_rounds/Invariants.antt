use Rattle.std.proofs.Common.{◌≡◌, ◌≤◌, ℕ, List, [], length}
use Rattle.mail_world.specs.Site.{Site}
use Rattle.lmtp_session.specs.Steps.{MayStop}
use Rattle.lmtp_talk.specs.Peer.{WasRead}
use Rattle.lmtp_talk.specs.Parties.{Parties, parties}
use Rattle.lmtp_talk.specs.TalkState.{IsSoFar, talk_state, beginning}
use Rattle.lmtp_talk.proofs.conversation.take_rounds.Given as goal

-- each round so far brought a byte at least
abbrev pub invariant-loop-made : goal.invariant-loop-made
invariant-loop-made g l = record {
  may : MayStop l.dialogue.session.session.state;
  none : l.dialogue.outbox.pending ≡ [];
  site : l.dialogue.session.site ≡ l.initial.dialogue.session.site;
  same : g.D.Delivery.site l.delivery ≡ g.D.Delivery.site l.initial.delivery;
  reads : WasRead l._made (g.P.Peer.state l.initial.peer) (g.P.Peer.state l.peer);
  stands : (site : Site) (start : Parties) (first : g.row.D.Denot) (handled : List ℕ)
      → IsSoFar (beginning site start (g.D.Delivery.HasCome first))
      (talk_state l.initial.dialogue (parties (g.P.Peer.state l.initial.peer) (g.O.Observer.told l.initial.observer))
      (g.D.Delivery.HasCome l.initial.delivery) (g.D.Delivery.IsDrafting l.initial.delivery))
      handled handled
      → (all : List ℕ) × (l._made ≤ length all)
      × IsSoFar (beginning site start (g.D.Delivery.HasCome first))
      (talk_state l.dialogue (parties (g.P.Peer.state l.peer) (g.O.Observer.told l.observer))
      (g.D.Delivery.HasCome l.delivery) (g.D.Delivery.IsDrafting l.delivery)) all all;
}
