-- What each step of a conversation does.
use Rattle.std.specs.Prelude.{◌≡◌, ℕ, ◌+◌, Bool, true, false, List, [], ◌∷◌, ◌++◌, length, Option}
use Rattle.mail_world.specs.Counts.{counted}
use Rattle.mail_world.specs.Session.{Input, DataEnded}
use Rattle.mail_world.specs.Replies.{reply_texts}
use Rattle.mail_world.specs.Conversation.{Disposition, session_after, replies_to, outcomes_of, OutcomesFit}
use Rattle.mail_world.specs.Lists.{Transaction, is_content}
use Rattle.mail_world.specs.Site.{Site}
use Rattle.mail_head.specs.MessageIds.{message_id_of}
use Rattle.lmtp_wire.specs.Dot.{HasMade}
use Rattle.lmtp_talk.specs.declared.dialogue.Dialogue.{Dialogue}
use Rattle.lmtp_talk.specs.Entries.{Entry, with_entries, line_entries, copy_entries, line_in}
use Rattle.lmtp_talk.specs.Peer.{PeerState}
use Rattle.lmtp_talk.specs.Parties.{Parties}
use Rattle.lmtp_talk.specs.Saying.{Says}
use Rattle.lmtp_talk.specs.Delivery.{EndsDraft}
use Rattle.lmtp_talk.specs.TalkState.{beginning, TalkState, talk_state, IsSoFar}

-- the session takes the inputs, and their replies are said
pub record TakesInputs (inputs : List Input) (old new : Dialogue) (before after : PeerState) : Type 0 where
  pub site : new.session.site ≡ old.session.site
  pub session : new.session.session ≡ session_after old.session.site old.session.session inputs
  pub says : Says before after old.outbox new.outbox
      (reply_texts old.session.site (replies_to old.session.site old.session.session inputs))
  pub wire : new.wire ≡ old.wire
  pub same : after.stops ≡ before.stops

-- the observer was told an entry for each reply to a line
abbrev pub TellsLine : Input → Dialogue → Option (List Entry) → Option (List Entry) → Type 0
TellsLine input dialogue before after = after
    ≡ with_entries before
    (line_entries (line_in input) (replies_to dialogue.session.site dialogue.session.session (input ∷ [])))

-- the observer was told an entry for each reply to data that ended, of this message of that number
abbrev pub TellsCopies : ℕ → List ℕ → List Input → Dialogue → Option (List Entry) → Option (List Entry) → Type 0
TellsCopies number message inputs dialogue before after = after
    ≡ with_entries before (copy_entries (counted number) (counted (length message)) (message_id_of message)
    dialogue.session.session.client (replies_to dialogue.session.site dialogue.session.session inputs))

-- what a conversation is held with, at one moment
pub record Talk (D : Type 0) : Type 0 where
  pub dialogue : Dialogue
  pub parties : Parties
  pub delivery : D

abbrev pub talk : {D : Type 0} → Dialogue → Parties → D → Talk D
talk dialogue parties delivery = record { dialogue = dialogue; parties = parties; delivery = delivery }

abbrev pub standing_of : {D : Type 0} → (D → ℕ → List Transaction → Type 0)
    → (D → ℕ → List Transaction → List ℕ → Type 0) → Talk D → TalkState
standing_of HasCome IsDrafting now = talk_state now.dialogue now.parties (HasCome now.delivery) (IsDrafting now.delivery)

-- a draft begins where the data is asked for, and else the delivery stays as it was
abbrev pub BeginsIf : {D : Type 0} → (D → ℕ → List Transaction → Type 0) → (D → ℕ → List Transaction → List ℕ → Type 0)
    → Bool → D → Talk D → Type 0
BeginsIf HasCome IsDrafting true before new = HasMade new.dialogue.dot [] []
    × ((n : ℕ) (ts : List Transaction) → HasCome before n ts → IsDrafting new.delivery (n + 1) ts [])
BeginsIf HasCome IsDrafting false before new = new.delivery ≡ before

-- a line is taken
pub record TakesLine {D : Type 0} (HasCome : D → ℕ → List Transaction → Type 0)
    (IsDrafting : D → ℕ → List Transaction → List ℕ → Type 0) (input : Input) (old new : Talk D) : Type 0 where
  pub takes : TakesInputs (input ∷ []) old.dialogue new.dialogue old.parties.peer new.parties.peer
  pub told : TellsLine input old.dialogue old.parties.told new.parties.told
  pub begins : BeginsIf HasCome IsDrafting (is_content new.dialogue.session.session.state) old.delivery new

-- the data ends
pub record EndsData {D : Type 0} (HasCome : D → ℕ → List Transaction → Type 0)
    (IsDrafting : D → ℕ → List Transaction → List ℕ → Type 0) (old new : Talk D) : Type 0 where
  pub disposition : Disposition
  pub takes : TakesInputs (DataEnded disposition.verdict ∷ outcomes_of disposition disposition.verdict)
      old.dialogue new.dialogue old.parties.peer new.parties.peer
  pub fits : OutcomesFit old.dialogue.session.session.recipients disposition disposition.verdict
  pub ended : (n : ℕ) (ts : List Transaction) (message : List ℕ) → IsDrafting old.delivery n ts message
      → EndsDraft (HasCome new.delivery) n ts old.dialogue.session.session message disposition
  pub told : (n : ℕ) (ts : List Transaction) (message : List ℕ) → IsDrafting old.delivery n ts message
      → TellsCopies n message (DataEnded disposition.verdict ∷ outcomes_of disposition disposition.verdict)
      old.dialogue old.parties.told new.parties.told

-- wherever the conversation stood before, it stands with these further bytes
abbrev pub Advances : {D : Type 0} → (D → ℕ → List Transaction → Type 0) → (D → ℕ → List Transaction → List ℕ → Type 0)
    → Talk D → Talk D → List ℕ → Type 0
Advances {D} HasCome IsDrafting old new more = (site : Site) (start : Parties) (first : D) (handled came : List ℕ)
    → IsSoFar (beginning site start (HasCome first)) (standing_of HasCome IsDrafting old) handled came
    → IsSoFar (beginning site start (HasCome first)) (standing_of HasCome IsDrafting new) (handled ++ more) came
