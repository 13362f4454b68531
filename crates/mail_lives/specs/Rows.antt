-- The letters of the worked examples.
use Rattle.std.specs.Prelude.{ℕ, List, [], codes}
use Rattle.mail_world.specs.Reading.{Letter}

-- a letter that stands in the mailbox
abbrev pub told : Letter
told = record { head = codes "a"; body = codes "x\n" }

-- one whose From line was filled up, and nothing follows
abbrev pub bare : List ℕ → Letter
bare head = record { head = head; body = [] }
