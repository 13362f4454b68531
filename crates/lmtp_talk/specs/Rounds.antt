-- The rounds of a conversation: a read, what it brings, and how it ends.
use Rattle.std.specs.Prelude.{◌≡◌, ◌<◌, ℕ, Bool, true, false, List, [], ◌++◌, length, Option, Some, None}
use Rattle.mail_world.specs.declared.Reply.TheVariants.{Greeting}
use Rattle.mail_world.specs.Site.{Site}
use Rattle.mail_world.specs.Session.{fresh}
use Rattle.mail_world.specs.Replies.{reply_text}
use Rattle.mail_world.specs.Lists.{Transaction}
use Rattle.lmtp_wire.specs.Wire.{IsAfter}
use Rattle.lmtp_talk.specs.declared.dialogue.Dialogue.{Dialogue}
use Rattle.lmtp_talk.specs.declared.ending.EndCause.{EndCause}
use Rattle.lmtp_talk.specs.declared.ending.EndCause.TheVariants as ends
use Rattle.mail_world.specs.declared.State.{State}
use Rattle.mail_world.specs.declared.State.TheVariants.{Waiting, Ended}
use Rattle.lmtp_talk.specs.Peer.{PeerState}
use Rattle.lmtp_talk.specs.Parties.{Parties}
use Rattle.lmtp_talk.specs.Saying.{HasSaid}
use Rattle.lmtp_talk.specs.Served.{terms, IsServed}
use Rattle.lmtp_talk.specs.TalkState.{Beginning, beginning, TalkState, IsSoFar}
use Rattle.lmtp_talk.specs.Steps.{Talk, standing_of}

-- a conversation has begun, and its greeting was said
pub record Greets (old new : Dialogue) (before after : PeerState) : Type 0 where
  pub site : new.session.site ≡ old.session.site
  pub session : new.session.session ≡ fresh
  pub wire : IsAfter new.wire []
  pub same : after.stops ≡ before.stops
  pub said : HasSaid before after new.outbox [] (reply_text old.session.site Greeting)

-- a draft is dropped, and where there is none all stays as it was
abbrev pub Leaves : Bool → (ℕ → List Transaction → Type 0) → (ℕ → List Transaction → List ℕ → Type 0)
    → (ℕ → List Transaction → Type 0) → Type 0
Leaves true Come Drafting Last = (n : ℕ) (ts : List Transaction) (message : List ℕ) → Drafting n ts message → Last n ts
Leaves false Come Drafting Last = (n : ℕ) (ts : List Transaction) → Come n ts → Last n ts

-- more bytes have come and are handled
pub record IsFurther (first : Beginning) (now : TalkState) (handled : List ℕ) : Type 0 where
  pub more : List ℕ
  pub some : 0 < length more
  pub stands : IsSoFar first now (handled ++ more) (handled ++ more)

-- a round after which the conversation goes on
abbrev pub TakesRound : {D : Type 0} → (D → ℕ → List Transaction → Type 0)
    → (D → ℕ → List Transaction → List ℕ → Type 0) → Talk D → Talk D → Type 0
TakesRound {D} HasCome IsDrafting old new = (site : Site) (start : Parties) (first : D) (handled : List ℕ)
    → IsSoFar (beginning site start (HasCome first)) (standing_of HasCome IsDrafting old) handled handled
    → IsFurther (beginning site start (HasCome first)) (standing_of HasCome IsDrafting new) handled

-- what holds after the last round of a conversation that may make that many reads
abbrev pub EndsRound : {D : Type 0} → (D → ℕ → List Transaction → Type 0) → (D → ℕ → List Transaction → List ℕ → Type 0)
    → ℕ → Talk D → Talk D → EndCause → Type 0
EndsRound {D} HasCome IsDrafting reads old new end = (site : Site) (start : Parties) (first : D) (handled : List ℕ)
    → IsSoFar (beginning site start (HasCome first)) (standing_of HasCome IsDrafting old) handled handled
    → IsServed (terms site reads) start new.parties (HasCome first) (HasCome new.delivery) end

-- the bytes that have come are handled, and the conversation goes on, or it has ended with them
abbrev pub HandlesPiece : {D : Type 0} → (D → ℕ → List Transaction → Type 0)
    → (D → ℕ → List Transaction → List ℕ → Type 0) → Talk D → Talk D → List ℕ → Type 0
HandlesPiece {D} HasCome IsDrafting old new piece = (site : Site) (start : Parties) (first : D) (handled : List ℕ)
    → IsSoFar (beginning site start (HasCome first)) (standing_of HasCome IsDrafting old) handled (handled ++ piece)
    → IsSoFar (beginning site start (HasCome first)) (standing_of HasCome IsDrafting new) (handled ++ piece)
    (handled ++ piece)

-- where a round ends with QUIT; a write that failed comes before it
abbrev pub quit_or : Bool → EndCause
quit_or true = ends.WriteFault
quit_or false = ends.Quit

abbrev pub end_after : State → Bool → Option EndCause
end_after Ended broken = Some (quit_or broken)
end_after Waiting broken = Some (quit_or broken)
end_after _ broken = None

abbrev pub stopped_or : Bool → EndCause
stopped_or true = ends.WriteFault
stopped_or false = ends.Stopped
