-- What stands after a deed.
use Rattle.std.specs.Prelude.{List}
use Rattle.mail_world.specs.House.{House}
use Rattle.mail_runs.specs.Deeds.{Deed}
use Rattle.mail_runs.specs.Courses.{Server}
use Rattle.mail_runs.specs.Histories.{Threads}
use Rattle.mail_runs.proofs.Manners.{Manner}
use Rattle.mail_runs.proofs.Story.{Story}
use Rattle.mail_runs.proofs.Stands.{Stands}

-- a house to which a run has come, where the rest is left
pub record Next (m : Manner) (s : Server) (t : Threads) (rest : List Deed) : Type 0 where
  pub house : House
  pub story : Story m house
  pub stands : Stands m s t rest house
