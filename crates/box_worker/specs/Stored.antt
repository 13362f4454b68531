-- A mailbox, and what its spool took and keeps.
use Rattle.std.specs.Prelude.{◌≡◌, ℕ, ◌+◌, Bool, true, false, List, ◌++◌, length, Option}
use Rattle.mail_world.specs.declared.Outcome.{Outcome}
use Rattle.mail_world.specs.declared.Outcome.TheVariants.{Stored, OverQuota}
use Rattle.mail_world.specs.Counts.{counted}
use Rattle.mbox_spool.specs.Spool.{SpoolState}
use Rattle.box_worker.specs.declared.limit.Limit.{Limit}
use Rattle.box_worker.specs.Limits.{IsLetIn, IsKeptOut}

-- the spool took the text, and a sync covers all that it holds
pub record HasKept (old new : SpoolState) (text : List ℕ) : Type 0 where
  pub appended : new.bytes ≡ old.bytes ++ text
  pub sound : new.failures ≡ old.failures
  pub limited : new.limit ≡ old.limit
  pub covered : new.synced ≡ length new.bytes
  pub turn : new.turn ≡ record old.turn { is_unsynced = false }

-- A mailbox: its spool, how many copies were stored and how many were over the quota, and whether the last turn that
-- was had broke.
pub record MailboxState : Type 0 where
  pub state : SpoolState
  pub stored : ℕ
  pub over : ℕ
  pub faulty : Bool

abbrev pub mailbox_of : SpoolState → ℕ → ℕ → Bool → MailboxState
mailbox_of state stored over faulty = record { state = state; stored = stored; over = over; faulty = faulty }

-- a mailbox, its worker's count under a quota, and how many turns were missed
pub record CountedMailbox : Type 0 where
  pub mailbox : MailboxState
  pub limit : Option Limit
  pub in_use : ℕ

-- whether a copy with a record of that size is let in, which changes nothing but the count
abbrev pub IsMeasured : ℕ → Bool → CountedMailbox → CountedMailbox → Type 0
IsMeasured size true old new = (new.mailbox ≡ old.mailbox) × IsLetIn old.limit size new.limit
    × (new.in_use ≡ old.in_use)
IsMeasured size false old new = (new ≡ old) × IsKeptOut old.limit size

-- what is counted of a copy by what its lane is told
abbrev pub CountsOutcome : Outcome → MailboxState → MailboxState → Type 0
CountsOutcome Stored old new = (new.stored ≡ counted (old.stored + 1)) × (new.over ≡ old.over)
CountsOutcome OverQuota old new = (new.stored ≡ old.stored) × (new.over ≡ counted (old.over + 1))
CountsOutcome _ old new = (new.stored ≡ old.stored) × (new.over ≡ old.over)
