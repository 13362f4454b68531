-- A thread that puts a copy off whose mailbox is busy, and goes on with other mailboxes.
use Rattle.std.specs.Prelude.{◌≡◌, ◌≤◌, ℕ, ◌+◌, Bool, List, [], ◌∷◌, ◌++◌, length, slice_get, Some}
use Rattle.mail_world.specs.declared.Note.{Note}
use Rattle.mail_world.specs.declared.Slip.{Slip}
use Rattle.mail_runs.specs.Timed.{RisesTo}
use Rattle.mail_runs.specs.Known.{AreLater, times_of}
use Rattle.mail_runs.specs.Ordered.{MakesRoom}
use Rattle.mail_world.specs.Site.{Site}
use Rattle.mail_post.specs.Channel.{Sender, Inbox, taken, HasPassedThrough}
use Rattle.mail_post.specs.InTime.{Ends, clock_of}
use Rattle.mail_post.specs.Parcels.{of}
use Rattle.box_worker.specs.Limits.{setting_by}
use Rattle.box_worker.specs.Turned.{Manner}
use Rattle.box_worker.specs.Worked.{idle, IsWorking, HasWorked}
use Rattle.box_worker.specs.Shares.{for_box, inbox_for, senders_for, moment_of, Start, KeptState}
use Rattle.box_worker.specs.Shares.{worker_at, worker_lost}
use Rattle.box_worker.specs.Passing.{sent_for, sent_at_for}

-- Mailbox b's receiver, where some copies that its thread took wait until their mailboxes are free. To the mailbox
-- these are in its channel still, which has room for that many more.
pub record IsShare (room b : ℕ) (senders : List (Sender Slip)) (inbox : Inbox Note) (waits : List Note)
    (share : Inbox Note) : Type 0 where
  pub channel : share.channel ≡ inbox.channel
  pub lanes : share.lanes ≡ inbox.lanes
  pub capacity : share.capacity ≡ inbox.capacity + room
  pub gone : share.gone ≡ inbox.gone
  -- when those that wait were accepted
  pub waiting_at : List ℕ
  pub as_many : length waiting_at ≡ length (of for_box b waits)
  pub as_many_took : length share.took_at ≡ length (taken share)
  pub all : of for_box b (taken inbox) ≡ taken share ++ of for_box b waits
  pub all_at : times_of for_box b (taken inbox) inbox.got_at ≡ share.got_at ++ waiting_at
  -- the thread took a copy off its channel once there was room for it among those that wait
  pub makes_room : MakesRoom room (times_of for_box b (taken inbox) inbox.took_at) share.took_at
  pub takes_rise : RisesTo 0 (moment_of senders inbox) share.took_at
  pub later : AreLater share.got_at share.took_at
  pub within : clock_of (senders_for b senders) share ≤ moment_of senders inbox

-- the same receiver before anything was taken, over a channel with room for that many more
abbrev pub roomier : ℕ → Inbox Note → Inbox Note
roomier room inbox = record inbox { capacity = inbox.capacity + room }

-- the mailbox is between two copies, as if it had a worker of its own
pub record IsPatient (room : ℕ) (site : Site) (manner : Manner) (start : Start) (old now : Ends Slip Note)
    (waits : List Note) (kept : KeptState) : Type 0 where
  pub share : Inbox Note
  pub is : IsShare room kept.number now.senders now.inbox waits share
  pub working : IsWorking (setting_by site start.quota kept.number) manner (taken share)
      (roomier room (inbox_for kept.number old.inbox)) share
      (idle (senders_for kept.number old.senders) start.spool start.told)
      (worker_at (senders_for kept.number now.senders) kept) kept.mailbox.limit

abbrev pub ArePatient : ℕ → Site → Manner → (ℕ → Start) → Ends Slip Note → Ends Slip Note → List Note
    → List KeptState → Type 0
ArePatient room site manner starts old now waits boxes = (i : ℕ) (kept : KeptState) → slice_get boxes i ≡ Some kept
    → IsPatient room site manner (starts i) old now waits kept

-- of the copies that wait, that one is the next of its mailbox
pub record IsNextOf (waits : List Note) (note : Note) (rest : List Note) : Type 0 where
  pub front : List Note
  pub back : List Note
  pub was : waits ≡ front ++ note ∷ back
  pub is : rest ≡ front ++ back
  pub first : of for_box note.mailbox front ≡ []

-- To each mailbox what passed through the thread's channel passed through one of its own, with room for as many more
-- copies as may wait beside the channel.
abbrev pub PassesForPatient : Type 0
PassesForPatient = (room b : ℕ) (senders : List (Sender Slip)) (inbox share : Inbox Note) (sent : List (List Note))
    (sent_at : List (List ℕ)) → length inbox.got_at ≡ length (taken inbox)
    → length inbox.took_at ≡ length (taken inbox) → HasPassedThrough (λ note. note.txn.lane) inbox sent sent_at
    → IsShare room b senders inbox [] share
    → HasPassedThrough (λ note. note.txn.lane) share (sent_for b sent) (sent_at_for b sent sent_at)

-- Each mailbox has done what a worker of its own would have, over a channel of its own with room for as many more
-- copies, as far as no channel was found gone.
pub record WorkedPatiently (room : ℕ) (site : Site) (manner : Manner) (start : Start) (old now : Ends Slip Note)
    (lost : Bool) (kept : KeptState) : Type 0 where
  pub share : Inbox Note
  pub is : IsShare room kept.number now.senders now.inbox [] share
  pub worked : HasWorked (setting_by site start.quota kept.number) manner
      (roomier room (inbox_for kept.number old.inbox)) share
      (idle (senders_for kept.number old.senders) start.spool start.told)
      (worker_lost (senders_for kept.number now.senders) kept lost)

abbrev pub HaveWorkedPatiently : ℕ → Site → Manner → (ℕ → Start) → Ends Slip Note → Ends Slip Note → Bool
    → List KeptState → Type 0
HaveWorkedPatiently room site manner starts old now lost boxes = (i : ℕ) (kept : KeptState)
    → slice_get boxes i ≡ Some kept → WorkedPatiently room site manner (starts i) old now lost kept
