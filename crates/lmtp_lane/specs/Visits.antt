-- The clients that a lane served.
use Rattle.std.specs.Prelude.{◌≡◌, ℕ, List, [], ◌∷◌, ◌++◌, length, map, Option, Some, None}
use Rattle.std.specs.List.{AllByRecursion}
use Rattle.mail_world.specs.Conversation.{Conversation, IsAccount, inputs, replies}
use Rattle.mail_world.specs.Lists.{Transaction}
use Rattle.mail_world.specs.Site.{Site}
use Rattle.lmtp_talk.specs.declared.ending.EndCause.{EndCause}
use Rattle.lmtp_talk.specs.declared.ending.EndCause.TheVariants as ends
use Rattle.lmtp_talk.specs.Entries.{Entry, OfEnd, entries_in, with_entries}
use Rattle.lmtp_talk.specs.Peer.{PeerState, HasMoved, RisesBy}
use Rattle.lmtp_talk.specs.Served.{Terms, IsWritten, EndsFor, HasRead, transactions_in, accepted_after_conversation}

-- a conversation that has ended: its client, as it was handed back, and the cause
pub record Finished : Type 0 where
  pub peer : PeerState
  pub cause : EndCause

-- what a Visits tells of the conversations that have ended: each of them, where it tells them, and how many these are;
-- the count stays at its largest value
pub record VisitsTold : Type 0 where
  pub each : Option (List Finished)
  pub count : ℕ

-- one more conversation is told, where they are told
abbrev pub TellsFinished : Option (List Finished) → Option (List Finished) → PeerState → EndCause → Type 0
TellsFinished None new peer cause = new ≡ None
TellsFinished (Some told) new peer cause = new ≡ Some (told ++ record { peer = peer; cause = cause } ∷ [])

-- a client who was served: the client before and after the conversation, the bytes that were read and what became of
-- their data, and why it ended
pub record Visit : Type 0 where
  pub before : PeerState
  pub after : PeerState
  pub conversation : Conversation
  pub cause : EndCause

-- the client is one that may come; no more reads were made of it than may be, and each was counted; what was read and
-- written is the conversation, whose account has an entry for each data that ended; and it ended for that cause
pub record IsVisit (by : Terms) (MayCome : PeerState → Type 0) (v : Visit) : Type 0 where
  pub client : MayCome v.before
  pub reads : HasRead by.reads v.before v.after v.cause
  pub said : List ℕ
  pub moved : HasMoved v.before v.after v.conversation.bytes said
  pub accounted : IsAccount by.site v.conversation
  pub says : IsWritten (replies by.site (inputs by.site v.conversation)) (v.cause ≡ ends.WriteFault) said
  pub causes : EndsFor by v.conversation v.before v.after v.cause

abbrev pub finished_of : Visit → Finished
finished_of v = record { peer = v.after; cause = v.cause }

abbrev pub conversations_of : List Visit → List Conversation
conversations_of visits = map (λ v. v.conversation) visits

-- these are told too, where conversations are told
abbrev pub HasFinished : Option (List Finished) → Option (List Finished) → List Visit → Type 0
HasFinished None new visits = new ≡ None
HasFinished (Some told) new visits = new ≡ Some (told ++ map finished_of visits)

-- the entries of a conversation before which n DATA commands were accepted, its end among them
abbrev pub visit_entries : Site → ℕ → Visit → List Entry
visit_entries site n v = entries_in site n v.conversation ++ OfEnd v.cause ∷ []

-- the entries of conversations, one after another
abbrev pub lane_entries : Site → ℕ → List Visit → List Entry
lane_entries site n [] = []
lane_entries site n (v ∷ visits) = visit_entries site n v
    ++ lane_entries site (accepted_after_conversation site n v.conversation) visits

-- the clients that were served, one after another, and each was handed back
pub record HasVisited (by : Terms) (MayCome : PeerState → Type 0) (old new : VisitsTold) (visits : List Visit)
    : Type 0 where
  pub told : HasFinished old.each new.each visits
  pub counts : RisesBy (length visits) old.count new.count
  pub each : AllByRecursion (IsVisit by MayCome) visits

-- this client was served, and handed back; a delivery that had come to that much before has come to its messages
-- too, and the observer, who was told that much earlier, was told the entries of the conversation
pub record HasConversed (by : Terms) (peer : PeerState) (old new : VisitsTold) (earlier later : Option (List Entry))
    (Before After : ℕ → List Transaction → Type 0) : Type 0 where
  pub visit : Visit
  pub is : IsVisit by (λ client. client ≡ peer) visit
  pub told : TellsFinished old.each new.each visit.after visit.cause
  pub counts : RisesBy 1 old.count new.count
  pub delivered : (n : ℕ) (ts : List Transaction) → Before n ts
      → After (accepted_after_conversation by.site n visit.conversation)
      (ts ++ transactions_in by.site n visit.conversation)
  pub logged : (n : ℕ) (ts : List Transaction) → Before n ts
      → later ≡ with_entries earlier (visit_entries by.site n visit)
