-- How the bytes of a mailbox are read, torn or not.
use Rattle.std.specs.Prelude.{◌≡◌, ℕ, List, ◌++◌}
use Rattle.mail_world.specs.Endings.{mended}
use Rattle.mail_world.specs.Reading.{Letter, AreLetters, written}

-- the bytes, and what mends them
abbrev pub with_mended : List ℕ → List ℕ
with_mended bytes = bytes ++ mended bytes

-- A reader of mboxrd finds these letters, where the server mends the bytes before it adds to them.
pub record IsReadAs (bytes : List ℕ) (letters : List Letter) : Type 0 where
  pub are : AreLetters letters
  pub whole : written letters ≡ with_mended bytes
