-- What was said to a peer: what of it was written, and what still waits.
use Rattle.std.specs.Prelude.{◌≡◌, ℕ, ⊤, Bool, true, false, List, [], ◌∷◌, ◌++◌, length}
use Rattle.mail_world.specs.declared.Reply.{Reply}
use Rattle.mail_world.specs.declared.Reply.TheVariants.{GoAhead}
use Rattle.mail_world.specs.Failures.{Rises}
use Rattle.mail_world.specs.Prefixes.{IsPrefix}
use Rattle.lmtp_session.specs.declared.act.Act.{Act}
use Rattle.lmtp_session.specs.declared.act.Act.TheVariants.{Say, ReadData, Deliver, Answer, Quit}
use Rattle.lmtp_talk.specs.Peer.{PeerState, HasMoved}

-- a prefix of the bytes was written, and a write failed
pub record BreaksOff (old new : PeerState) (bytes : List ℕ) : Type 0 where
  pub prefix : List ℕ
  pub begins : IsPrefix prefix bytes
  pub moved : HasMoved old new [] prefix
  pub failed : Rises old.failures new.failures
  pub same : new.stops ≡ old.stops

-- no write failed: what waits follows what was written
pub record IsWhole (start now : PeerState) (written pending text : List ℕ) : Type 0 where
  pub whole : text ≡ written ++ pending
  pub sound : now.failures ≡ start.failures

-- a write failed, and nothing was written after it
pub record IsBroken (start now : PeerState) (written text : List ℕ) : Type 0 where
  pub begins : IsPrefix written text
  pub failed : Rises start.failures now.failures

abbrev pub IsSaid : Bool → PeerState → PeerState → List ℕ → List ℕ → List ℕ → Type 0
IsSaid false start now written pending text = IsWhole start now written pending text
IsSaid true start now written pending text = IsBroken start now written text

-- what contracts see of an outbox: the bytes of the replies that wait, and whether a write has failed
pub record OutboxView : Type 0 where
  pub pending : List ℕ
  pub broken : Bool

-- since the start these bytes have come, and this text was said
pub record HasSaid (start now : PeerState) (outbox : OutboxView) (came text : List ℕ) : Type 0 where
  pub written : List ℕ
  pub moved : HasMoved start now came written
  pub is : IsSaid outbox.broken start now written outbox.pending text

-- whatever was said before, this text was said after it
abbrev pub Says : PeerState → PeerState → OutboxView → OutboxView → List ℕ → Type 0
Says before after old new more = (start : PeerState) (came text : List ℕ) → HasSaid start before old came text
    → HasSaid start after new came (text ++ more)

-- whatever was said before, nothing was said after it
abbrev pub SaysNoMore : PeerState → PeerState → OutboxView → OutboxView → Type 0
SaysNoMore before after old new = (start : PeerState) (came text : List ℕ) → HasSaid start before old came text
    → HasSaid start after new came text

-- the replies that an act says, where these are kept for the recipients
abbrev pub said : Act → List Reply → List Reply
said (Say reply) kept = reply ∷ []
said ReadData kept = GoAhead ∷ []
said (Deliver n) kept = []
said (Answer n) kept = kept
said (Quit reply) kept = reply ∷ []

-- the answers that an act counts are all that are kept
abbrev pub CanSay : Act → List Reply → Type 0
CanSay (Answer n) kept = n ≡ length kept
CanSay _ kept = ⊤
