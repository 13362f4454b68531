-- A thread that serves several mailboxes has one receiver and one sender of slips for each lane. What these are to each
-- of its mailboxes: a receiver and senders of the mailbox's own.
use Rattle.std.specs.Prelude.{◌≡◌, ◌⊎◌, ℕ, ◌+◌, ◌/◌, Bool, List, [], ◌∷◌, length, map, sum_by, slice_get, slice_set}
use Rattle.std.specs.Prelude.{Option, Some}
use Rattle.std.specs.List.{AllByRecursion}
use Rattle.mail_world.specs.declared.Note.{Note}
use Rattle.mail_world.specs.declared.Slip.{Slip}
use Rattle.mail_world.specs.Counts.{counted}
use Rattle.mail_world.specs.Slips.{slip_of}
use Rattle.mail_world.specs.Records.{record_of}
use Rattle.mail_runs.specs.Known.{times_of}
use Rattle.mail_world.specs.Site.{Site}
use Rattle.mail_writing.specs.Calendar.{civil_at}
use Rattle.mbox_spool.specs.Spool.{SpoolState}
use Rattle.mail_post.specs.Channel.{Sender, Inbox, taken}
use Rattle.mail_post.specs.InTime.{Ends}
use Rattle.mail_post.specs.Offered.{IsOffered, HaveNumber, any_gone}
use Rattle.mail_post.specs.Parcels.{of}
use Rattle.mail_post.specs.declared.kinds.TheConstants.{WORKER_THREADS}
use Rattle.mail_post.specs.WorkerThreads.{worker_thread}
use Rattle.mail_post.specs.declared.rule.Parcel.TheVariants.{Copy}
use Rattle.box_worker.specs.Limits.{setting_by}
use Rattle.box_worker.specs.declared.turn.TurnEnd.{TurnEnd}
use Rattle.box_worker.specs.Stored.{CountedMailbox, CountsOutcome}
use Rattle.box_worker.specs.Turned.{Manner, TurnsCopy}
use Rattle.box_worker.specs.TurnEnds.{outcome_of, with_ends}
use Rattle.box_worker.specs.Worked.{WorkerState, idle, IsWorking, HasWorked}

abbrev pub for_box : Note → ℕ
for_box note = note.mailbox

abbrev pub by_box : Slip → ℕ
by_box slip = slip.worker

-- mailbox b's receiver: what was taken for it, in the same order and at the same times
abbrev pub inbox_for : ℕ → Inbox Note → Inbox Note
inbox_for b inbox = record {
  channel = inbox.channel;
  capacity = inbox.capacity;
  lanes = inbox.lanes;
  got = map (λ note. Copy note) (of for_box b (taken inbox));
  got_at = times_of for_box b (taken inbox) inbox.got_at;
  took_at = times_of for_box b (taken inbox) inbox.took_at;
  gone = inbox.gone;
}

-- its sender to a lane: what was accepted of its slips, in the same order and at the same times
abbrev pub sender_for : ℕ → Sender Slip → Sender Slip
sender_for b sender = record {
  channel = sender.channel;
  number = b;
  sent = of by_box b sender.sent;
  sent_at = times_of by_box b sender.sent sender.sent_at;
  gone = sender.gone;
}

abbrev pub senders_for : ℕ → List (Sender Slip) → List (Sender Slip)
senders_for b senders = map (sender_for b) senders

-- both
abbrev pub ends_for : ℕ → Ends Slip Note → Ends Slip Note
ends_for b ends = record { senders = senders_for b ends.senders; inbox = inbox_for b ends.inbox }

-- all of them
abbrev pub sum_all : List ℕ → ℕ
sum_all [] = 0
sum_all (t ∷ ts) = t + sum_all ts

-- a number that no time of any of the thread's mailboxes is above
abbrev pub total_of : List (Sender Slip) → Inbox Note → ℕ
total_of senders inbox = sum_by (λ sender. sum_all sender.sent_at) senders + sum_all inbox.took_at

-- and one that no time of acceptance is above either
abbrev pub moment_of : List (Sender Slip) → Inbox Note → ℕ
moment_of senders inbox = total_of senders inbox + total_of senders inbox + sum_all inbox.got_at

-- a slip is told after this: there is a time for its copy's turn in between
abbrev pub telling_of : List (Sender Slip) → Inbox Note → ℕ
telling_of senders inbox = moment_of senders inbox + moment_of senders inbox + 1

-- each message has its time
pub record KeepsTimes (senders : List (Sender Slip)) (inbox : Inbox Note) : Type 0 where
  pub got : length inbox.got_at ≡ length (taken inbox)
  pub took : length inbox.took_at ≡ length (taken inbox)
  pub sent : (k : ℕ) (sender : Sender Slip) → slice_get senders k ≡ Some sender
      → length sender.sent_at ≡ length sender.sent

-- what a mailbox begins with: the limit of bytes for it, what its spool holds, and what its observer was told
pub record Start : Type 0 where
  pub quota : Option ℕ
  pub spool : SpoolState
  pub told : Option (List TurnEnd)

-- one of a thread's mailboxes: its number, what its worker counts there, how many copies it took, and what its observer
-- was told
pub record KeptState : Type 0 where
  pub number : ℕ
  pub mailbox : CountedMailbox
  pub taken : ℕ
  pub told : Option (List TurnEnd)

abbrev pub numbers_of : List KeptState → List ℕ
numbers_of boxes = map (λ kept. kept.number) boxes

-- the mailbox's worker, which has these senders
abbrev pub worker_at : List (Sender Slip) → KeptState → WorkerState
worker_at slips kept = record {
  slips = slips;
  mailbox = kept.mailbox.mailbox;
  in_use = kept.mailbox.in_use;
  taken = kept.taken;
  lost = any_gone slips;
  told = kept.told;
}

-- the same, where it is known whether a channel was found gone
abbrev pub worker_lost : List (Sender Slip) → KeptState → Bool → WorkerState
worker_lost slips kept lost = record {
  slips = slips;
  mailbox = kept.mailbox.mailbox;
  in_use = kept.mailbox.in_use;
  taken = kept.taken;
  lost = lost;
  told = kept.told;
}

-- where a mailbox stands among those of its thread
abbrev pub slot_of : ℕ → ℕ
slot_of number = number / WORKER_THREADS

abbrev pub AreInPlace : List KeptState → Type 0
AreInPlace boxes = (i : ℕ) (kept : KeptState) → slice_get boxes i ≡ Some kept → slot_of kept.number ≡ i

-- the senders are those of each mailbox's thread
abbrev pub AreOfThread : List KeptState → List (Sender Slip) → Type 0
AreOfThread boxes senders = (i : ℕ) (kept : KeptState) → slice_get boxes i ≡ Some kept
    → HaveNumber (worker_thread kept.number) senders

-- no copy was taken for a mailbox of that start, whatever its ends
abbrev pub IsNew : Site → Manner → Start → KeptState → Type 0
IsNew site manner start kept = (slips : List (Sender Slip)) (inbox : Inbox Note) → HaveNumber kept.number slips
    → IsWorking (setting_by site start.quota kept.number) manner [] inbox inbox (idle slips start.spool start.told)
    (worker_at slips kept) kept.mailbox.limit

abbrev pub AreNew : Site → Manner → (ℕ → Start) → List KeptState → Type 0
AreNew site manner starts boxes = (i : ℕ) (kept : KeptState) → slice_get boxes i ≡ Some kept
    → IsNew site manner (starts i) kept

-- each of the thread's mailboxes is between two copies, as if it had a worker of its own
abbrev pub AreWorking : Site → Manner → (ℕ → Start) → Ends Slip Note → Ends Slip Note → List KeptState → Type 0
AreWorking site manner starts old now boxes = (i : ℕ) (kept : KeptState) → slice_get boxes i ≡ Some kept
    → IsWorking (setting_by site (starts i).quota kept.number) manner (taken (inbox_for kept.number now.inbox))
    (inbox_for kept.number old.inbox) (inbox_for kept.number now.inbox)
    (idle (senders_for kept.number old.senders) (starts i).spool (starts i).told)
    (worker_at (senders_for kept.number now.senders) kept) kept.mailbox.limit

-- each has done what a worker of its own would have
abbrev pub HaveWorked : Site → Manner → (ℕ → Start) → Ends Slip Note → Ends Slip Note → Bool → List KeptState
    → Type 0
HaveWorked site manner starts old now lost boxes = (i : ℕ) (kept : KeptState) → slice_get boxes i ≡ Some kept
    → HasWorked (setting_by site (starts i).quota kept.number) manner (inbox_for kept.number old.inbox)
    (inbox_for kept.number now.inbox) (idle (senders_for kept.number old.senders) (starts i).spool (starts i).told)
    (worker_lost (senders_for kept.number now.senders) kept lost)

-- What a mailbox's worker does with a copy: a turn, whose end its observer is told, and a slip, which tells the copy's
-- lane of it after all that the thread knows.
pub record HandlesCopy (site : Site) (manner : Manner) (note : Note) (inbox : Inbox Note)
    (before after : List (Sender Slip)) (old new : KeptState) : Type 0 where
  pub end : TurnEnd
  pub accepted : Bool
  pub told : IsOffered (telling_of before inbox) note.txn.lane (λ sender. slip_of note.mailbox note (outcome_of end))
      accepted before after
  pub number : new.number ≡ old.number
  pub counted_one : new.taken ≡ counted (old.taken + 1)
  pub tallied : CountsOutcome (outcome_of end) old.mailbox.mailbox new.mailbox.mailbox
  pub turns : TurnsCopy manner (record_of civil_at site note) end old.mailbox new.mailbox
  pub observed : new.told ≡ with_ends old.told (end ∷ [])

-- the mailbox at that place has that number
abbrev pub IsAt : List KeptState → ℕ → ℕ → Type 0
IsAt boxes number i = (kept : KeptState) × (slice_get boxes i ≡ Some kept) × (kept.number ≡ number)

-- none has
abbrev pub IsNone : List KeptState → ℕ → Type 0
IsNone boxes number = (i : ℕ) (kept : KeptState) → slice_get boxes i ≡ Some kept → kept.number ≡ number → ⊥

-- the copy's mailbox handled it, and the others stay as they are
pub record IsHandled (site : Site) (manner : Manner) (note : Note) (inbox : Inbox Note)
    (before after : List (Sender Slip)) (old new : List KeptState) : Type 0 where
  pub at : ℕ
  pub kept : KeptState
  pub is : slice_get old at ≡ Some kept
  pub mine : kept.number ≡ note.mailbox
  pub next : KeptState
  pub handles : HandlesCopy site manner note inbox before after kept next
  pub others : new ≡ slice_set old at next

-- or it is of no mailbox of this thread, and nothing changes
abbrev pub IsHandledOrNot : Site → Manner → Note → Inbox Note → List (Sender Slip) → List (Sender Slip)
    → List KeptState → List KeptState → Type 0
IsHandledOrNot site manner note inbox before after old new =
    IsHandled site manner note inbox before after old new
    ⊎ (IsNone old note.mailbox × (after ≡ before) × (new ≡ old))

-- ends that nothing has gone through
pub record AreFresh (senders : List (Sender Slip)) (inbox : Inbox Note) : Type 0 where
  pub got : taken inbox ≡ []
  pub got_at : inbox.got_at ≡ []
  pub took_at : inbox.took_at ≡ []
  pub sent : (k : ℕ) (sender : Sender Slip) → slice_get senders k ≡ Some sender
      → (sender.sent ≡ []) × (sender.sent_at ≡ [])

-- each slip that these senders were told was accepted is of one of the thread's mailboxes
abbrev pub GaveForItsOwn : List KeptState → List (Sender Slip) → Type 0
GaveForItsOwn boxes senders = (k : ℕ) (sender : Sender Slip) → slice_get senders k ≡ Some sender
    → AllByRecursion (λ slip. (i : ℕ) × IsAt boxes slip.worker i) sender.sent
