-- Where a conversation stands between two of its bytes.
use Rattle.std.specs.Prelude.{◌≡◌, ℕ, Bool, true, false, List, [], ◌++◌, length, flat_map, sum_by}
use Rattle.mail_world.specs.declared.State.{State}
use Rattle.mail_world.specs.declared.State.TheVariants.{Content, Waiting, Ended}
use Rattle.mail_world.specs.declared.Reply.TheVariants.{Greeting}
use Rattle.mail_world.specs.Site.{Site}
use Rattle.mail_world.specs.Session.{fresh, Input}
use Rattle.mail_world.specs.Replies.{reply_text, reply_texts}
use Rattle.mail_world.specs.Conversation.{Disposition, Part, inputs_of, session_after_parts, replies_to, parts, size_of}
use Rattle.mail_world.specs.Conversation.{AllFit}
use Rattle.mail_world.specs.Dispositions.{dispositions_of, busy_before, busy_of}
use Rattle.mail_world.specs.Lists.{Transaction, accepted_after, transactions_of}
use Rattle.lmtp_wire.specs.Wire.{IsAfter}
use Rattle.lmtp_wire.specs.Dot.{HasMade}
use Rattle.lmtp_talk.specs.declared.dialogue.Dialogue.{Dialogue}
use Rattle.lmtp_talk.specs.Entries.{entries_of, with_entries}
use Rattle.lmtp_talk.specs.Parties.{Parties}
use Rattle.lmtp_talk.specs.Saying.{HasSaid}
use Rattle.lmtp_talk.specs.Served.{has_quit}

-- these parts stand at the beginning, whatever follows them
pub record IsCutUp (site : Site) (done : List ℕ) (ps : List Part) : Type 0 where
  pub goes : (more : List ℕ) (ds : List Disposition) (bs : List Bool)
      → parts site fresh (done ++ more) (dispositions_of ps ++ ds) (busy_before ps bs) ≡ ps
      ++ parts site (session_after_parts site fresh ps) more ds bs
  pub size : sum_by size_of ps ≡ length done
  pub fit : AllFit site fresh ps
  pub none_busy : site.tells_busy ≡ false → busy_of ps ≡ []

-- the session has ended exactly where QUIT was an input
pub record QuitsWith (state : State) (xs : List Input) : Type 0 where
  pub ends : state ≡ Ended → has_quit xs ≡ true
  pub quit : has_quit xs ≡ true → state ≡ Ended

-- what a delivery has come to after the parts, from what it had come to before them
abbrev pub Comes : Site → List Part → (ℕ → List Transaction → Type 0) → (ℕ → List Transaction → Type 0) → Type 0
Comes site ps Before Now = (n : ℕ) (ts : List Transaction) → Before n ts
    → Now (accepted_after site n fresh ps) (ts ++ transactions_of site n fresh ps)

-- inside a line, of which these bytes were taken
pub record InLine (dialogue : Dialogue) (rest : List ℕ) (come : Type 0) : Type 0 where
  pub after : IsAfter dialogue.wire rest
  pub comes : come

-- inside data, of which these bytes were taken, with a draft of what was made of them
pub record InData (dialogue : Dialogue) (rest : List ℕ) (drafts : List ℕ → Type 0) : Type 0 where
  pub made : List ℕ
  pub next : IsAfter dialogue.wire []
  pub after : HasMade dialogue.dot rest made
  pub drafting : drafts made

abbrev pub IsInside : State → Dialogue → List ℕ → Type 0 → (List ℕ → Type 0) → Type 0
IsInside Content dialogue rest come drafts = InData dialogue rest drafts
IsInside Waiting dialogue rest come drafts = ⊥
IsInside Ended dialogue rest come drafts = come
IsInside _ dialogue rest come drafts = InLine dialogue rest come

-- where a conversation began: at this site, with parties that stood so, and with a delivery that had come to this
pub record Beginning : Type 1 where
  pub site : Site
  pub parties : Parties
  pub come : ℕ → List Transaction → Type 0

abbrev pub beginning : Site → Parties → (ℕ → List Transaction → Type 0) → Beginning
beginning site parties come = record { site = site; parties = parties; come = come }

-- where its parts stand now: the delivery has come to this, with this draft in hand where there is one
pub record TalkState : Type 1 where
  pub dialogue : Dialogue
  pub parties : Parties
  pub come : ℕ → List Transaction → Type 0
  pub drafting : ℕ → List Transaction → List ℕ → Type 0

abbrev pub talk_state : Dialogue → Parties → (ℕ → List Transaction → Type 0)
    → (ℕ → List Transaction → List ℕ → Type 0)
    → TalkState
talk_state dialogue parties come drafting = record {
  dialogue = dialogue;
  parties = parties;
  come = come;
  drafting = drafting;
}

-- Of the bytes that came since the beginning of the conversation, these are handled.
pub record IsSoFar (first : Beginning) (now : TalkState) (handled came : List ℕ) : Type 0 where
  pub done : List Part
  pub prefix : List ℕ
  pub rest : List ℕ
  pub whole : handled ≡ prefix ++ rest
  pub cut : IsCutUp first.site prefix done
  pub same_site : now.dialogue.session.site ≡ first.site
  pub session : now.dialogue.session.session ≡ session_after_parts first.site fresh done
  pub quits : QuitsWith now.dialogue.session.session.state (flat_map inputs_of done)
  pub said : HasSaid first.parties.peer now.parties.peer now.dialogue.outbox came
      (reply_text first.site Greeting ++ reply_texts first.site (replies_to first.site fresh (flat_map inputs_of done)))
  pub goes : now.parties.peer.stops ≡ first.parties.peer.stops
  pub logged : (n : ℕ) (ts : List Transaction) → first.come n ts
      → now.parties.told ≡ with_entries first.parties.told (entries_of first.site n fresh done)
  pub inside : IsInside now.dialogue.session.session.state now.dialogue rest (Comes first.site done first.come now.come)
      (λ made. Comes first.site done first.come (λ n ts. now.drafting n ts made))
