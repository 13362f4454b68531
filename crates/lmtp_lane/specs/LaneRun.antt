-- What a lane comes to.
use Rattle.std.specs.Prelude.{◌≡◌, ℕ, Bool, true, false, List, length, flat_map, Option}
use Rattle.std.specs.List.{AllByRecursion}
use Rattle.mail_world.specs.declared.Note.{Note}
use Rattle.mail_world.specs.declared.Slip.{Slip}
use Rattle.mail_world.specs.declared.limits.TheConstants.{RECIPIENT_LIMIT}
use Rattle.mail_world.specs.Lists.{transactions, VerdictsFit, copies}
use Rattle.mail_world.specs.Counts.{counted}
use Rattle.mail_runs.specs.Timed.{whats}
use Rattle.mail_runs.specs.Ordered.{AreExchanges}
use Rattle.mail_post.specs.Channel.{Sender, Inbox}
use Rattle.lmtp_talk.specs.Entries.{Entry, with_entries}
use Rattle.lmtp_talk.specs.Peer.{PeerState}
use Rattle.lmtp_talk.specs.Served.{Terms}
use Rattle.lmtp_lane.specs.LaneExchange.{LaneEnds, HasExchanged}
use Rattle.lmtp_lane.specs.LaneAccount.{IsAnswered, IsHeardInTurn}
use Rattle.lmtp_lane.specs.Visits.{VisitsTold, Visit, HasVisited, conversations_of, lane_entries}

-- a lane between two conversations, and what its observer was told, where that says so
pub record LaneState : Type 0 where
  pub finished : VisitsTold
  pub over : Bool
  pub told : Option (List Entry)
  pub ends : LaneEnds
  pub conversations : ℕ

-- a lane after that many conversations
abbrev pub lane_state : ℕ → VisitsTold → Bool → Option (List Entry) → LaneEnds → LaneState
lane_state n finished over told ends = record {
  finished = finished;
  over = over;
  told = told;
  ends = ends;
  conversations = n;
}

-- lane k before its first conversation
abbrev pub lane_start : VisitsTold → Bool → Option (List Entry) → ℕ → List (Sender Note) → Inbox Slip → LaneState
lane_start finished over told k senders slips =
    lane_state 0 finished over told (record { lane = k; senders = senders; inbox = slips; gone = false })

-- what a lane hands back: the conversations that have ended, whether no client is left, what its observer was told,
-- its ends of the channels, whether one of them was found gone, and how many conversations it held
pub record LaneBack : Type 0 where
  pub finished : VisitsTold
  pub over : Bool
  pub told : Option (List Entry)
  pub senders : List (Sender Note)
  pub slips : Inbox Slip
  pub gone : Bool
  pub conversations : ℕ

-- lane k after its last conversation
abbrev pub lane_end : ℕ → LaneBack → LaneState
lane_end k back = lane_state back.conversations back.finished back.over back.told
    (record { lane = k; senders = back.senders; inbox = back.slips; gone = back.gone })

-- A lane served these clients: each conversation's replies are those to its inputs, the observer was told the entries
-- of all conversations, the senders gave the worker threads what these owe their mailboxes, up to a copy that was
-- handed back, the outcomes are those of the slips that were heard, and each moment is one that the clock may answer.
-- Without a gone channel it ended because there were no more clients, and it sent one message after the other: it gave
-- all copies of a message, and then heard slips until each was answered.
pub record HasServed (by : Terms) (May : ℕ → Type 0) (MayCome : PeerState → Type 0) (old new : LaneState) : Type 0 where
  pub visits : List Visit
  pub visited : HasVisited by MayCome old.finished new.finished visits
  pub logged : new.told ≡ with_entries old.told (lane_entries by.site 0 visits)
  pub ended : new.ends.gone ≡ false → new.over ≡ true
  pub counts : new.conversations ≡ counted (length visits)
  pub came : List Slip
  pub own : List Slip
  pub heard : List Slip
  pub exchanged : HasExchanged (flat_map (copies old.ends.lane) (transactions by.site 0 (conversations_of visits)))
      (record { came = came; own = own; heard = heard }) old.ends new.ends
  pub in_turn : new.ends.gone ≡ false
      → AreExchanges RECIPIENT_LIMIT old.ends.lane (transactions by.site 0 (conversations_of visits))
      (whats exchanged.done.deeds)
  pub turns : IsHeardInTurn old.ends.lane (transactions by.site 0 (conversations_of visits))
      (record { came = came; own = own; heard = heard })
  pub answered : AllByRecursion (IsAnswered old.ends.lane heard) (transactions by.site 0 (conversations_of visits))
  pub verdicts : VerdictsFit by.site (conversations_of visits)
  pub moments : AllByRecursion (λ t. May t.disposition.moment) (transactions by.site 0 (conversations_of visits))
