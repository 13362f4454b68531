-- What a worker comes to: the turns of the copies that it took, and what it told the lanes of each.
use Rattle.std.specs.Prelude.{◌≡◌, ◌||◌, ℕ, Bool, true, false, List, length, Option, Some, None, IsSome}
use Rattle.std.specs.List.{count_by}
use Rattle.mail_world.specs.declared.Note.{Note}
use Rattle.mail_world.specs.declared.Slip.{Slip}
use Rattle.mail_world.specs.Counts.{counted}
use Rattle.mail_world.specs.Turns.{Told}
use Rattle.mail_runs.specs.Courses.{outcomes_in}
use Rattle.mbox_spool.specs.Spool.{SpoolState}
use Rattle.mail_post.specs.Channel.{Sender, Inbox, taken}
use Rattle.mail_post.specs.InTime.{Ends}
use Rattle.mail_post.specs.Offered.{HaveNumber, HaveAccepted, any_gone}
use Rattle.mail_post.specs.declared.channel.Gone.{Gone}
use Rattle.mail_post.specs.declared.channel.Gone.TheVariants.{Closed, Lost}
use Rattle.box_worker.specs.declared.limit.Limit.{Limit}
use Rattle.box_worker.specs.declared.turn.TurnEnd.{TurnEnd}
use Rattle.box_worker.specs.Limits.{Setting, CountsTo}
use Rattle.box_worker.specs.Stored.{MailboxState, mailbox_of, CountedMailbox}
use Rattle.box_worker.specs.Turned.{Manner, turned, HasTurned}
use Rattle.box_worker.specs.Told.{owed_to, is_stored, says_over_quota}
use Rattle.box_worker.specs.TurnEnds.{TellsTurns}
use Rattle.box_worker.specs.TurnTimes.{TakeTurns}

-- a worker: its senders of slips, its mailbox, how many turns were missed, how many copies it took, whether a channel
-- was found gone, and what its observer was told, where that says so
pub record WorkerState : Type 0 where
  pub slips : List (Sender Slip)
  pub mailbox : MailboxState
  pub in_use : ℕ
  pub taken : ℕ
  pub lost : Bool
  pub told : Option (List TurnEnd)

-- its mailbox, with what it counts there
abbrev pub counted_of : WorkerState → Option Limit → CountedMailbox
counted_of worker limit = record { mailbox = worker.mailbox; limit = limit; in_use = worker.in_use }

-- one that took nothing yet
abbrev pub idle : List (Sender Slip) → SpoolState → Option (List TurnEnd) → WorkerState
idle slips spool told = record {
  slips = slips;
  mailbox = mailbox_of spool 0 0 false;
  in_use = 0;
  taken = 0;
  lost = false;
  told = told;
}

-- What became of these copies, the first that a worker took: each has one turn, its lane a slip that says what came of
-- it, and the worker's observer was told how the turn ended.
pub record HasHandled (at : Setting) (manner : Manner) (copies : List Note) (old new : WorkerState) : Type 0 where
  pub turns : List Told
  pub told : HaveAccepted (λ k. owed_to at.worker (outcomes_in turns) k copies) old.slips new.slips
  pub numbered : HaveNumber at.worker new.slips
  pub taken_count : new.taken ≡ counted (length copies)
  pub stored_count : new.mailbox.stored ≡ counted (count_by is_stored (outcomes_in turns))
  pub over_count : new.mailbox.over ≡ counted (count_by says_over_quota (outcomes_in turns))
  pub each : HasTurned at manner copies turns (turned old.mailbox.state old.mailbox.faulty old.in_use)
      (turned new.mailbox.state new.mailbox.faulty new.in_use)
  pub observed : TellsTurns turns old.told new.told

-- and what its worker counted last
pub record IsCounting (at : Setting) (manner : Manner) (copies : List Note) (old new : WorkerState)
    (limit : Option Limit) : Type 0 where
  pub handled : HasHandled at manner copies old new
  pub counts : (n : ℕ) × CountsTo at.quota n limit

-- its ends of the channels
abbrev pub worker_ends : WorkerState → Inbox Note → Ends Slip Note
worker_ends worker inbox = record { senders = worker.slips; inbox = inbox }

-- and what it did at its ends of the channels
pub record IsWorking (at : Setting) (manner : Manner) (copies : List Note) (before now : Inbox Note)
    (old new : WorkerState) (limit : Option Limit) : Type 0 where
  pub counting : IsCounting at manner copies old new limit
  pub turns : TakeTurns at.worker copies (outcomes_in counting.handled.turns) (worker_ends old before)
      (worker_ends new now)

-- whether its channel was found gone before it was closed
abbrev pub is_lost : Option Gone → Bool
is_lost None = false
is_lost (Some Closed) = false
is_lost (Some Lost) = true

-- What a worker's run comes to: all that its channel gave it until that ended is handled, copy by copy, in order of
-- time. A channel was found gone just where that one was, or where a slip was handed back.
pub record HasWorked (at : Setting) (manner : Manner) (before after : Inbox Note) (old new : WorkerState) : Type 0 where
  pub channel : after.channel ≡ before.channel
  pub lanes : after.lanes ≡ before.lanes
  pub capacity : after.capacity ≡ before.capacity
  pub ended : IsSome after.gone
  pub lost : new.lost ≡ (any_gone new.slips || is_lost after.gone)
  pub handled : HasHandled at manner (taken after) old new
  pub turns : TakeTurns at.worker (taken after) (outcomes_in handled.turns) (worker_ends old before)
      (worker_ends new after)
