-- Where a spool is between its turns, and which it had: other programs may have its mailbox between two of them.
use Rattle.std.specs.Prelude.{ℕ, Bool, ◌&&◌, not, List, [], ◌∷◌, Option, Some, None}
use Rattle.mail_world.specs.Turns.{Standing, Turn, Had}

pub record TurnState : Type 0 where
  -- it is in a turn: between the lock and the unlock
  pub in_turn : Bool
  -- a call failed in this turn, or, outside of turns, in the last one that was had
  pub has_failed : Bool
  -- an append stands after the last good sync
  pub is_unsynced : Bool
  -- how many turns were missed, which stays at 2^64 - 1
  pub refusals : ℕ
  -- how it stood at this turn's lock, and the turns that are over
  pub began : Option Standing
  pub turns : List Turn

-- it knows how it ends: it is in a turn, in which no call failed
abbrev pub knows_end : TurnState → Bool
knows_end turn = turn.in_turn && not turn.has_failed

-- the turn that is over
abbrev pub had : Option Standing → Standing → List Turn
had (Some lock) unlock = Had lock unlock ∷ []
had None unlock = []
