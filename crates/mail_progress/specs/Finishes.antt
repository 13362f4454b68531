-- Steps that go on come to an end, and there all is finished.
use Rattle.std.specs.Prelude.{◌⊎◌, ⊤, ℕ, ◌≤◌, List, [], ◌∷◌, ◌++◌}
use Rattle.mail_world.specs.declared.Event.{Event}
use Rattle.mail_world.specs.House.{House, IsStart}
use Rattle.mail_world.specs.Events.{Step}
use Rattle.mail_world.specs.Runs.{Happened, Run, last_house, events_of}
use Rattle.mail_progress.specs.Orderly.{IsInOrder, IsOrderly}
use Rattle.mail_progress.specs.GoingOn.{GoesOn}
use Rattle.mail_progress.specs.NothingStuck.{AreThere, AreClosed}
use Rattle.mail_progress.specs.Finished.{IsFinished}
use Rattle.mail_progress.specs.InTurn.{IsFirst}

-- After these events, whatever mailboxes of the house the lanes' next copies are for, chosen again in each house: all
-- is finished or a step is first; and whichever of the steps that go on is taken, the house that it leads to finishes
-- too. As this is built up from the last houses, no steps follow one another without end.
pub data Finishes (room blocks : ℕ) : List Event → House → Type 0 where
  WhateverFollows : (events : List Event) (h : House)
      → ((next : ℕ → ℕ) → AreThere next h → IsFinished blocks events h ⊎ ((event : Event) × IsFirst room next h event))
      → ((next : ℕ → ℕ) (event : Event) (new : House) → GoesOn next h event → IsInOrder room h event → Step h event new
      → Finishes room blocks (events ++ event ∷ []) new)
      → Finishes room blocks events h

-- each house of each orderly run does
abbrev pub AlwaysFinishes : Type 0
AlwaysFinishes = (room blocks : ℕ) (start : House) (run : List Happened) → IsStart blocks start → Run start run
    → IsOrderly room start run → 1 ≤ room
    → let h = last_house start run in (1 ≤ start.capacity) ⊎ AreClosed h → Finishes room blocks (events_of run) h

-- each event of the run is the first one
abbrev pub AreFirst : ℕ → (House → ℕ → ℕ) → House → List Happened → Type 0
AreFirst room next h [] = ⊤
AreFirst room next h (x ∷ xs) = IsFirst room (next h) h x.event × AreFirst room next x.house xs

-- the next copies are for mailboxes of the house, in each house that may follow
abbrev pub AreAlwaysThere : (House → ℕ → ℕ) → House → Type 0
AreAlwaysThere next h = (run : List Happened) → Run h run → let new = last_house h run in AreThere (next new) new

-- mailboxes stay, so it is so where each lane's next copy is always for the same one
abbrev pub ThereStays : Type 0
ThereStays = (next : ℕ → ℕ) (h : House) → AreThere next h → AreAlwaysThere (λ new. next) h

-- so from each house of an orderly run the first steps, one after the other, are an orderly run to a house where all
-- is finished
abbrev pub FinishesInTurn : Type 0
FinishesInTurn = (room blocks : ℕ) (start : House) (run : List Happened) → IsStart blocks start → Run start run
    → IsOrderly room start run → 1 ≤ room
    → let h = last_house start run in (1 ≤ start.capacity) ⊎ AreClosed h
    → (next : House → ℕ → ℕ) → AreAlwaysThere next h
    → (rest : List Happened) × Run h rest × IsOrderly room h rest × AreFirst room next h rest
    × IsFinished blocks (events_of run ++ events_of rest) (last_house h rest)
