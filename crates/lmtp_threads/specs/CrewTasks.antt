-- The threads of a crew.
use Rattle.std.specs.Prelude.{ℕ, List}

-- the tasks of a crew's threads, in the order of their start, and how many it has room for
pub record CrewState (T : Type 0) : Type 0 where
  pub tasks : List T
  pub room : ℕ
