-- Runs after each of which any bytes may stand behind those that were kept of a mailbox, which others leave alone.
use Rattle.std.specs.Prelude.{ℕ, List, [], ◌∷◌, flat_map}
use Rattle.mail_world.specs.Quotas.{quota_at}
use Rattle.mail_lives.specs.SpoiltLives.{SpoiltLife}
use Rattle.lmtp_threads.specs.Works.{VisitsView, SpoolsView}
use Rattle.lmtp_lives.specs.Runs.{ServerRun, number_of, of_box}

-- a run, and of each mailbox the bytes that stood behind those that were kept of it then
pub record SpoiltRun {V S C : Type 0} (May : C → ℕ → Type 0) (view : VisitsView V) (spools : SpoolsView S)
    : Type 0 where
  pub run : ServerRun May view spools
  pub spoilt : ℕ → List ℕ

module _ {V S C : Type 0} {May : C → ℕ → Type 0} {view : VisitsView V} {spools : SpoolsView S} where
  -- such a run as the mailbox with this number of its site sees it
  abbrev pub spoilt_life_at : ℕ → SpoiltRun May view spools → SpoiltLife
  spoilt_life_at b it = record {
    site = it.run.site;
    quota = quota_at it.run.old.quotas b;
    taken = (it.run.ran.boxes b).taken;
    turns = (it.run.ran.boxes b).turns;
    spoilt = it.spoilt b;
  }

  -- such runs as the mailbox of this name sees them
  abbrev pub spoilt_lives_in : List ℕ → SpoiltRun May view spools → List SpoiltLife
  spoilt_lives_in name it = of_box (λ b. spoilt_life_at b it ∷ []) (number_of name it.run.site)

  abbrev pub spoilt_lives_at : List ℕ → List (SpoiltRun May view spools) → List SpoiltLife
  spoilt_lives_at name runs = flat_map (spoilt_lives_in name) runs
