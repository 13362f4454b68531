-- What a mailbox comes to: the copies that its worker takes, and their turns.
use Rattle.std.specs.Prelude.{ℕ, List, map, Option}
use Rattle.mail_world.specs.declared.Note.{Note}
use Rattle.mail_world.specs.declared.Outcome.{Outcome}
use Rattle.mail_world.specs.Records.{Calendar}
use Rattle.mail_world.specs.Site.{Site}
use Rattle.mail_world.specs.Turns.{Told, HaveTurns, AllKeep}

-- what stays while a server runs: the calendar and the site of its records, and how many lanes and mailboxes there are
pub record Server : Type 0 where
  pub calendar : Calendar
  pub site : Site
  pub lanes : ℕ
  pub boxes : ℕ

-- a mailbox from its start to its end: its quota, if it has one, what it held at first, the copies that its worker
-- took, and their turns, with what was told of each
pub record Course : Type 0 where
  pub quota : Option ℕ
  pub old : List ℕ
  pub taken : List Note
  pub turns : List Told

-- what was told in these turns
abbrev pub outcomes_in : List Told → List Outcome
outcomes_in turns = map (λ told. told.outcome) turns

-- each copy has its turn under the mailbox's own quota, in the order taken, and what a turn keeps is of what stands
-- there
abbrev pub IsCourse : Server → Course → Type 0
IsCourse s course = HaveTurns s.calendar s.site course.quota course.taken course.turns × AllKeep course.turns
