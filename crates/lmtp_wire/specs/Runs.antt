-- A message with its dots doubled, run by run (RFC 5321, 4.5.2).
use Rattle.std.specs.Prelude.{◌≡◌, ◌<◌, ℕ, List, ◌∷◌, ◌++◌, length}
use Rattle.mail_world.specs.Text.{lf}
use Rattle.mail_world.specs.Data.{dot, with_dots}

-- after a line's end or a doubled dot: no dot is doubled up to the end of the run, and the one after it is
pub record CutsRun (text run after : List ℕ) : Type 0 where
  pub whole : with_dots lf dot text ≡ run ++ dot ∷ dot ∷ with_dots lf dot after
  pub shorter : length after < length text

-- a text that begins with the other
pub record GoesOnFrom (prefix text : List ℕ) : Type 0 where
  pub more : List ℕ
  pub whole : text ≡ prefix ++ more
