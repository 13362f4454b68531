-- What others make of the letters of a mailbox that they have between two turns.
use Rattle.std.specs.Prelude.{List, [], ◌∷◌}
use Rattle.mail_world.specs.Reading.{Letter}

-- what becomes of one letter: nothing, another stands in its place, or none
pub data Fate : Type 0 where
  Untouched : Fate
  Changed : Letter → Fate
  Removed : Fate

-- what is left of the letters, in their order
abbrev pub left_of : List Fate → List Letter → List Letter
left_of (Untouched ∷ fates) (letter ∷ letters) = letter ∷ left_of fates letters
left_of (Changed other ∷ fates) (letter ∷ letters) = other ∷ left_of fates letters
left_of (Removed ∷ fates) (letter ∷ letters) = left_of fates letters
left_of _ _ = []
