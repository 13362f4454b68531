-- The order in which the steps that go on are tried.
use Rattle.std.specs.Prelude.{◌⊎◌, ℕ, ◌≤◌, List}
use Rattle.mail_world.specs.declared.Event.{Event}
use Rattle.mail_world.specs.declared.Event.TheVariants.{Begin, Put, Cancel, Seal, Split, Offer, HandBack, Collect, Take}
use Rattle.mail_world.specs.declared.Event.TheVariants.{Lock, Miss, Write, Sync, Cut, Unlock, Release, GiveSlip}
use Rattle.mail_world.specs.declared.Event.TheVariants.{Reclaim, Close}
use Rattle.mail_world.specs.House.{House, IsStart}
use Rattle.mail_world.specs.Events.{MayHappen}
use Rattle.mail_world.specs.Runs.{Happened, Run, last_house, events_of}
use Rattle.mail_progress.specs.Orderly.{IsInOrder, IsOrderly}
use Rattle.mail_progress.specs.GoingOn.{GoesOn, MayGoOn}
use Rattle.mail_progress.specs.NothingStuck.{AreThere, AreClosed}
use Rattle.mail_progress.specs.Finished.{IsFinished}

-- The lower is tried first: a lane's draft, its copies one by one, then what the workers have, from the channel to the
-- slip, then what the lanes collect, and at last the messages that nobody holds. The events of the last rank never go
-- on.
abbrev pub rank : Event → ℕ
rank (Seal k n) = 0
rank (Cancel k) = 0
rank (Split k i) = 1
rank (Offer k note) = 2
rank (HandBack k i b) = 2
rank (Take w) = 3
rank (Lock w bytes) = 4
rank (Write w bytes) = 5
rank (Sync w) = 6
rank (Unlock w) = 7
rank (Release w) = 8
rank (GiveSlip w outcome) = 9
rank (Collect k) = 10
rank (Reclaim slot generation) = 11
rank (Begin k) = 12
rank (Put k bytes) = 12
rank (Miss w) = 12
rank (Cut w) = 12
rank (Close b) = 12

-- the event takes further what is under way, and may happen, and no event of a lower rank does
pub record IsFirst (room : ℕ) (next : ℕ → ℕ) (h : House) (event : Event) : Type 0 where
  pub goes_on : GoesOn next h event
  pub in_order : IsInOrder room h event
  pub happens : MayHappen h event
  pub first : (other : MayGoOn room next h) → rank event ≤ rank other.event

-- in each house of each orderly run all is finished, or there is a first event
abbrev pub TriedInTurn : Type 0
TriedInTurn = (room blocks : ℕ) (start : House) (run : List Happened) → IsStart blocks start → Run start run
    → IsOrderly room start run → 1 ≤ room
    → let h = last_house start run in (1 ≤ start.capacity) ⊎ AreClosed h
    → (next : ℕ → ℕ) → AreThere next h → IsFinished blocks (events_of run) h
    ⊎ ((event : Event) × IsFirst room next h event)
