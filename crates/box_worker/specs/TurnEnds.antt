-- What an observer of a worker's turns is told: how each of them ended.
use Rattle.std.specs.Prelude.{◌≡◌, Bool, true, false, List, ◌++◌, Option, option_map}
use Rattle.std.specs.List.{AllZip}
use Rattle.mail_world.specs.declared.Outcome.{Outcome}
use Rattle.mail_world.specs.declared.Outcome.TheVariants as outcome
use Rattle.mail_world.specs.Turns.{Told}
use Rattle.box_worker.specs.declared.turn.TurnEnd.{TurnEnd}
use Rattle.box_worker.specs.declared.turn.TurnEnd.TheVariants.{Missed, Over, Stored, Broke}
use Rattle.box_worker.specs.Turned.{is_not_had}

-- what the lane is told of a copy whose turn ended so
abbrev pub outcome_of : TurnEnd → Outcome
outcome_of (Missed reason) = outcome.Failed
outcome_of Over = outcome.OverQuota
outcome_of Stored = outcome.Stored
outcome_of (Broke reason) = outcome.Failed

-- whether it says that the turn wasn't had
abbrev pub says_missed : TurnEnd → Bool
says_missed (Missed reason) = true
says_missed Over = false
says_missed Stored = false
says_missed (Broke reason) = false

-- the copy's turn ended so, for whatever reason
abbrev pub IsEndOf : Told → TurnEnd → Type 0
IsEndOf told end = (told.outcome ≡ outcome_of end) × (is_not_had told.turn ≡ says_missed end)

-- what an observer was told, with these further ends, where it says that
abbrev pub with_ends : Option (List TurnEnd) → List TurnEnd → Option (List TurnEnd)
with_ends told more = option_map (λ ends. ends ++ more) told

-- an observer was told besides how each of these turns ended, in their order
pub record TellsTurns (turns : List Told) (old new : Option (List TurnEnd)) : Type 0 where
  pub ends : List TurnEnd
  pub are : AllZip IsEndOf turns ends
  pub told : new ≡ with_ends old ends
