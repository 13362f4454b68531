-- What a worker does at its ends of the channels, in its order, with times that rise.
use Rattle.std.specs.Prelude.{◌≡◌, ℕ, false, List}
use Rattle.mail_world.specs.declared.Note.{Note}
use Rattle.mail_world.specs.declared.Slip.{Slip}
use Rattle.mail_world.specs.declared.Outcome.{Outcome}
use Rattle.mail_runs.specs.Deeds.{turns_of}
use Rattle.mail_runs.specs.Timed.{TimedDeed, whats, tells_to}
use Rattle.mail_runs.specs.Known.{is_taken}
use Rattle.mail_post.specs.Offered.{IsPart, any_gone}
use Rattle.mail_post.specs.InTime.{Ends, Sorts, AreInTime}

-- a worker gives the slips that it tells, and takes copies
abbrev pub worker_sorts : Sorts
worker_sorts = record { gives = tells_to; takes = is_taken }

-- The worker took these copies, one after the other, and told of each before it took the next. Times rise along all
-- that it did: it took each copy at the time that its receiver knows, and told of it at the one that the slip's sender
-- knows. A slip that was handed back has none.
pub record TakeTurns (worker : ℕ) (copies : List Note) (outcomes : List Outcome) (old new : Ends Slip Note)
    : Type 0 where
  pub deeds : List TimedDeed
  pub in_time : AreInTime worker_sorts deeds old new
  pub all : any_gone new.senders ≡ false → whats deeds ≡ turns_of worker copies outcomes
  pub some : IsPart (whats deeds) (turns_of worker copies outcomes)
