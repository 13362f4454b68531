-- The turns of a spool, as it lists them.
use Rattle.std.specs.Prelude.{ℕ, List, [], ◌∷◌, ◌++◌, length, Option, Some, None}
use Rattle.mail_world.specs.Turns.{Standing, Turn, NotHad}
use Rattle.mbox_spool.specs.TurnState.{had}

pub record TurnLog : Type 0 where
  -- how the spool stood at this turn's lock
  pub began : Option Standing
  -- the turns that are over
  pub turns : List Turn
  -- how one stands between two turns that others may change there, or at any time one that keeps no bytes; no other
  -- says it here
  pub stands : Standing

-- a spool that is empty
abbrev pub nothing_there : Standing
nothing_there = record { bytes = []; synced = 0; failures = 0 }

abbrev pub no_turns : TurnLog
no_turns = record { began = None; turns = []; stands = nothing_there }

-- none yet, of one that stands so
abbrev pub no_turns_at : Standing → TurnLog
no_turns_at first = record no_turns { stands = first }

-- once a turn began, was missed, or is over
abbrev pub begun_at : TurnLog → Standing → TurnLog
begun_at log lock = record log { began = Some lock }

abbrev pub missed : TurnLog → TurnLog
missed log = record log { turns = log.turns ++ NotHad ∷ [] }

abbrev pub ended_at : TurnLog → Standing → TurnLog
ended_at log unlock = record log { began = None; turns = log.turns ++ had log.began unlock }

-- a turn is over of one that others may change then
abbrev pub left_at : TurnLog → Standing → TurnLog
left_at log unlock = record (ended_at log unlock) { stands = unlock }

-- and of one that keeps no bytes, once it took more of them, or made sure of those that it took
abbrev pub taken_more : TurnLog → List ℕ → TurnLog
taken_more log text = record log { stands = record log.stands { bytes = log.stands.bytes ++ text } }

abbrev pub made_sure : TurnLog → TurnLog
made_sure log = record log { stands = record log.stands { synced = length log.stands.bytes } }
