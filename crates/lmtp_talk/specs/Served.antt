-- What a conversation with one client comes to.
use Rattle.std.specs.Prelude.{◌≡◌, ◌⊎◌, ◌||◌, ◌≤◌, ℕ, Bool, true, false, List, [], ◌∷◌, ◌++◌, length, Ok}
use Rattle.std.specs.Io.KnownBytes.{IsAtEnd}
use Rattle.mail_world.specs.Failures.{Rises}
use Rattle.mail_world.specs.Site.{Site}
use Rattle.mail_world.specs.Commands.{Answer, Quit, command}
use Rattle.mail_world.specs.Session.{fresh, Input, Line, Busy}
use Rattle.mail_world.specs.Conversation.{Conversation, IsAccount, inputs, replies, parts}
use Rattle.mail_world.specs.Lists.{Transaction, accepted_after, transactions_of}
use Rattle.mail_world.specs.Prefixes.{IsPrefix}
use Rattle.lmtp_talk.specs.declared.ending.EndCause.{EndCause}
use Rattle.lmtp_talk.specs.declared.ending.EndCause.TheVariants as ends
use Rattle.lmtp_talk.specs.Entries.{entries_in, with_entries}
use Rattle.lmtp_talk.specs.Peer.{PeerState, HasMoved, WasRead}
use Rattle.lmtp_talk.specs.Parties.{Parties}

-- QUIT is among the inputs
abbrev pub is_quit_answer : Answer → Bool
is_quit_answer (Ok Quit) = true
is_quit_answer _ = false

abbrev pub is_quit : Input → Bool
is_quit (Line text) = is_quit_answer (command text)
is_quit (Busy text) = is_quit_answer (command text)
is_quit _ = false

abbrev pub has_quit : List Input → Bool
has_quit [] = false
has_quit (x ∷ xs) = is_quit x || has_quit xs

-- a text is written, or a prefix of it where a write failed
pub record IsWritten (text : List ℕ) (fails : Type 0) (done : List ℕ) : Type 0 where
  pub begins : IsPrefix done text
  pub whole : (fails → ⊥) → done ≡ text

-- the data of a conversation, before which n DATA commands were accepted, and how many were accepted after it
abbrev pub transactions_in : Site → ℕ → Conversation → List Transaction
transactions_in site n c = transactions_of site n fresh (parts site fresh c.bytes c.dispositions c.busy)

abbrev pub accepted_after_conversation : Site → ℕ → Conversation → ℕ
accepted_after_conversation site n c = accepted_after site n fresh (parts site fresh c.bytes c.dispositions c.busy)

-- what a conversation keeps to: the site, and how many reads it may make
pub record Terms : Type 0 where
  pub site : Site
  pub reads : ℕ

abbrev pub terms : Site → ℕ → Terms
terms site reads = record { site = site; reads = reads }

-- why the conversation ended
pub record EndsFor (by : Terms) (c : Conversation) (old new : PeerState) (end : EndCause) : Type 0 where
  pub quit : end ≡ ends.Quit → has_quit (inputs by.site c) ≡ true
  pub quits : has_quit (inputs by.site c) ≡ true → (end ≡ ends.Quit) ⊎ (end ≡ ends.WriteFault)
  pub end_of_input : end ≡ ends.EndOfInput → IsAtEnd new.unread
  -- each read after which it went on brought a byte
  pub read_bound : end ≡ ends.ReadBound → by.reads ≤ length c.bytes
  pub stop : end ≡ ends.Stopped → c.stopped ≡ true
  pub stops : c.stopped ≡ true → (end ≡ ends.Stopped) ⊎ (end ≡ ends.WriteFault)
  -- the peer said so exactly where the conversation was stopped
  pub rose : c.stopped ≡ true → Rises old.stops new.stops
  pub kept : c.stopped ≡ false → new.stops ≡ old.stops
  pub read_fault : end ≡ ends.ReadFault → Rises old.failures new.failures
  pub write_fault : end ≡ ends.WriteFault → Rises old.failures new.failures
  pub sound : (end ≡ ends.ReadFault → ⊥) → (end ≡ ends.WriteFault → ⊥) → new.failures ≡ old.failures

-- how many reads were made: never more than may be, and all of these where that ended the conversation
pub record HasRead (reads : ℕ) (old new : PeerState) (end : EndCause) : Type 0 where
  pub made : ℕ
  pub counts : WasRead made old new
  pub within : made ≤ reads
  pub read_bound : end ≡ ends.ReadBound → made ≡ reads

-- From parties that stood so to where they stand now, and from what the delivery had come to, to what it has come to.
pub record IsServed (by : Terms) (old new : Parties) (Before After : ℕ → List Transaction → Type 0)
    (end : EndCause) : Type 0 where
  pub conversation : Conversation
  pub said : List ℕ
  pub moved : HasMoved old.peer new.peer conversation.bytes said
  -- an entry for each data that ended
  pub accounted : IsAccount by.site conversation
  pub says : IsWritten (replies by.site (inputs by.site conversation)) (end ≡ ends.WriteFault) said
  -- the delivery got just these messages, each in its session, in their order, and its outcomes are those of the
  -- account
  pub delivered : (n : ℕ) (ts : List Transaction) → Before n ts
      → After (accepted_after_conversation by.site n conversation) (ts ++ transactions_in by.site n conversation)
  -- the observer was told an entry for each reply to its lines and its data, in their order
  pub logged : (n : ℕ) (ts : List Transaction) → Before n ts
      → new.told ≡ with_entries old.told (entries_in by.site n conversation)
  pub causes : EndsFor by conversation old.peer new.peer end
