-- The open files of a thread's mailboxes.
use Rattle.std.specs.Prelude.{◌≡◌, List, ◌∷◌, ◌++◌}

-- just that one of them is gone, and the others stand as they stood, in their order
pub record IsWithoutOne {X : Type 0} (one : X) (old new : List X) : Type 0 where
  -- those before it, and those after it
  pub before : List X
  pub later : List X
  pub was : old ≡ before ++ one ∷ later
  pub is : new ≡ before ++ later
