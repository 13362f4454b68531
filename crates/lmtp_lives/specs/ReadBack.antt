-- What is read back of what clients were told.
use Rattle.std.specs.Prelude.{◌≡◌, ◌<◌, ◌≤◌, ℕ, List, length}
use Rattle.std.specs.List.{AllByRecursion}
use Rattle.mail_world.specs.Reading.{Letter}
use Rattle.mail_lives.specs.Steps.{StepsComeTo}
use Rattle.mail_lives.specs.Lives.{lives_steps, told_through, broken_through}
use Rattle.mail_lives.specs.ReadBack.{stored_in, torn_in, IsReadBack}
use Rattle.mail_writing.specs.Calendar.{civil_at}
use Rattle.lmtp_threads.specs.Works.{VisitsView, SpoolsView}
use Rattle.lmtp_lives.specs.Runs.{ServerRun, lives_at, told_in_run}

-- The letters of the mailbox of this name before these runs and after them. They are what the lives' steps come to,
-- which store just what was told Stored, in the order of the turns, and of which no more are torn than turns broke; and
-- each copy of which any client was told that it is stored is read back, as its run's site has it written.
pub record AreReadBack {V S C : Type 0} {May : C → ℕ → Type 0} {view : VisitsView V} {spools : SpoolsView S}
    (name : List ℕ) (runs : List (ServerRun May view spools)) (old new : List Letter) : Type 0 where
  pub come : StepsComeTo civil_at (lives_steps (lives_at name runs)) old new
  pub stored : stored_in (lives_steps (lives_at name runs)) ≡ told_through (lives_at name runs)
  pub torn : torn_in (lives_steps (lives_at name runs)) ≤ broken_through (lives_at name runs)
  pub told : AllByRecursion (λ run. (k : ℕ) → k < length run.old.visits
      → AllByRecursion (IsReadBack civil_at (lives_steps (lives_at name runs)) old new run.site)
      (told_in_run name k run)) runs
