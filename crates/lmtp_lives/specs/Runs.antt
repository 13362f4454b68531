-- Runs of a server, one after another, each with a site of its own: what they are to a mailbox, and what clients were
-- told.
use Rattle.std.specs.Prelude.{◌≡◌, ℕ, List, [], ◌∷◌, length, flat_map, Option, Some, None, position}
use Rattle.std.specs.Str.{bytes_eq}
use Rattle.mail_world.specs.declared.Note.{Note}
use Rattle.mail_world.specs.Deliveries.{outcomes_told}
use Rattle.mail_world.specs.Lists.{due}
use Rattle.mail_world.specs.Quotas.{quota_at}
use Rattle.mail_world.specs.Site.{Site}
use Rattle.mail_lives.specs.Lives.{Gap, Life, stored_of}
use Rattle.lmtp_lane.specs.Visits.{conversations_of}
use Rattle.lmtp_threads.specs.Works.{VisitsView, SpoolsView}
use Rattle.lmtp_house.specs.Handed.{HandedIn, HandedBack}
use Rattle.lmtp_house.specs.House.{HasRun}

-- one run: its site, its clock, what was handed in and handed back, what it came to; and before each turn at the
-- mailbox with a number what others made of its letters, as lives have it
pub record ServerRun {V S C : Type 0} (May : C → ℕ → Type 0) (view : VisitsView V) (spools : SpoolsView S)
    : Type 0 where
  pub site : Site
  pub clock : C
  pub old : HandedIn V S
  pub new : HandedBack V S
  pub ran : HasRun site (May clock) view spools old new
  pub each_box : length old.spools ≡ length site.boxes
  pub gaps : ℕ → List (Option Gap)

-- the number of the mailbox that has this name, where the site has one
abbrev pub number_of : List ℕ → Site → Option ℕ
number_of name site = position (λ box. bytes_eq box name) site.boxes

-- what there is of the mailbox with a number, and nothing where there is no such mailbox
abbrev pub of_box : {A : Type 0} → (ℕ → List A) → Option ℕ → List A
of_box what None = []
of_box what (Some b) = what b

module _ {V S C : Type 0} {May : C → ℕ → Type 0} {view : VisitsView V} {spools : SpoolsView S} where
  -- a run as the mailbox with this number of its site sees it
  abbrev pub life_at : ℕ → ServerRun May view spools → Life
  life_at b run = record {
    site = run.site;
    quota = quota_at run.old.quotas b;
    taken = (run.ran.boxes b).taken;
    turns = (run.ran.boxes b).turns;
    gaps = run.gaps b;
  }

  -- runs as the mailbox of this name sees them: a life in each whose site has it
  abbrev pub lives_in : List ℕ → ServerRun May view spools → List Life
  lives_in name run = of_box (λ b. life_at b run ∷ []) (number_of name run.site)

  abbrev pub lives_at : List ℕ → List (ServerRun May view spools) → List Life
  lives_at name runs = flat_map (lives_in name) runs

  -- the copies for the mailbox with this number of which lane k's clients were told that they are stored
  abbrev pub told_at : ℕ → ℕ → ServerRun May view spools → List Note
  told_at b k run =
      let cs = conversations_of (run.ran.lanes k).visits in
      stored_of (due run.site k b cs) (outcomes_told run.site b cs)

  -- those for the mailbox of this name
  abbrev pub told_in_run : List ℕ → ℕ → ServerRun May view spools → List Note
  told_in_run name k run = of_box (λ b. told_at b k run) (number_of name run.site)
