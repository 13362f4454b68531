-- What the lines of the logs of lanes have in common.
use Rattle.std.specs.Prelude.{ℕ, zero, suc, Bool, List, [], ◌∷◌}

-- the number of the lane that the lines of a log name, and whether they show addresses
pub record LogLines : Type 0 where
  pub lane : ℕ
  pub addresses : Bool

-- those of so many lanes, numbered from this one on
abbrev pub lines_from : Bool → ℕ → ℕ → List LogLines
lines_from addresses lane zero = []
lines_from addresses lane (suc count) =
    record { lane = lane; addresses = addresses } ∷ lines_from addresses (suc lane) count
