-- The lives of a server at a mailbox: in each it takes turns, until it stops, is killed, or the power goes.
use Rattle.std.specs.Prelude.{◌≡◌, ◌≢◌, ℕ, false, List, [], ◌∷◌, ◌++◌, map, flat_map, sum_by, count_by, Option}
use Rattle.std.specs.Prelude.{Some, None}
use Rattle.std.specs.List.{AllByRecursion}
use Rattle.mail_world.specs.declared.Note.{Note}
use Rattle.mail_world.specs.declared.Outcome.{Outcome}
use Rattle.mail_world.specs.declared.Outcome.TheVariants.{Stored, Failed}
use Rattle.mail_world.specs.Records.{Calendar}
use Rattle.mail_world.specs.Endings.{mended}
use Rattle.mail_world.specs.Reading.{Letter}
use Rattle.mail_world.specs.Turns.{Standing, Turn, NotHad, Had, Told, HaveTurns, breaks_last}
use Rattle.mail_lives.specs.Fates.{Fate}
use Rattle.mail_lives.specs.Steps.{SiteNote, Step, Others, Stores, Rests, Tears, HasLeft, HasTorn}
use Rattle.mail_world.specs.Site.{Site}

-- what others made of the letters before a turn: what became of each, and which they added
pub record Gap : Type 0 where
  pub fates : List Fate
  pub added : List Letter

-- The site, the copies that a worker took, and their turns; before each turn what others made of the letters, or None
-- where nothing of the turn is left: it was missed, or it stored nothing and the power went before anything of it was
-- kept.
pub record Life : Type 0 where
  pub site : Site
  pub quota : Option ℕ
  pub taken : List Note
  pub turns : List Told
  pub gaps : List (Option Gap)

-- ---- its bytes

-- What is left of a turn that was had, at whose lock these bytes stood there: they, and what was appended. Of one that
-- broke any part of what was to be appended is left: a loss of power may take what wasn't kept, and bring back what was
-- cut off.
abbrev pub IsLeft : Calendar → Site → Note → Outcome → Standing → Standing → List ℕ → List ℕ → Type 0
IsLeft calendar site note Failed lock unlock found new = HasTorn calendar site note found new
IsLeft calendar site note _ lock unlock found new =
    (appended : List ℕ) × (unlock.bytes ≡ lock.bytes ++ appended) × (new ≡ found ++ appended)

-- From the bytes that were left before a turn to those that are left after it. A spool may know no more of what others
-- leave than how it ends: the bytes that it tells at the lock are mended as those that stand there.
abbrev pub TurnLeaves : Calendar → Site → Note → Outcome → Turn → Option Gap → List ℕ → List ℕ → Type 0
TurnLeaves calendar site note outcome turn None old new = (outcome ≢ Stored) × (new ≡ old)
TurnLeaves calendar site note outcome NotHad (Some gap) old new = ⊥
TurnLeaves calendar site note outcome (Had lock unlock) (Some gap) old new =
    (found : List ℕ) × HasLeft gap.fates gap.added old found × (mended found ≡ mended lock.bytes)
    × IsLeft calendar site note outcome lock unlock found new

abbrev pub TurnsLeave : Calendar → Site → List Note → List Told → List (Option Gap) → List ℕ → List ℕ → Type 0
TurnsLeave calendar site [] [] [] old new = new ≡ old
TurnsLeave calendar site (note ∷ notes) (told ∷ turns) (gap ∷ gaps) old new =
    (between : List ℕ) × TurnLeaves calendar site note told.outcome told.turn gap old between
    × TurnsLeave calendar site notes turns gaps between new
TurnsLeave calendar site _ _ _ old new = ⊥

-- from the bytes that the first of these lives found to those that the last of them left
abbrev pub LivesLeave : Calendar → List Life → List ℕ → List ℕ → Type 0
LivesLeave calendar [] old new = new ≡ old
LivesLeave calendar (life ∷ lives) old new =
    (between : List ℕ) × TurnsLeave calendar life.site life.taken life.turns life.gaps old between
    × LivesLeave calendar lives between new

-- Lives one after another, each with a site of its own: each copy has its turn, and each turn begins with what is left
-- of the one before it.
pub record HaveLived (calendar : Calendar) (lives : List Life) (old new : List ℕ) : Type 0 where
  pub are : AllByRecursion (λ life. HaveTurns calendar life.site life.quota life.taken life.turns) lives
  pub leave : LivesLeave calendar lives old new

-- ---- its steps

-- what a turn does that is left
abbrev pub turn_step : Site → Note → Outcome → Step
turn_step site note Stored = Stores site note
turn_step site note Failed = Tears site note
turn_step site note _ = Rests

abbrev pub turn_steps : Site → Note → Outcome → Option Gap → List Step
turn_steps site note outcome None = []
turn_steps site note outcome (Some gap) = Others gap.fates gap.added ∷ turn_step site note outcome ∷ []

abbrev pub turns_steps : Site → List Note → List Told → List (Option Gap) → List Step
turns_steps site (note ∷ notes) (told ∷ turns) (gap ∷ gaps) =
    turn_steps site note told.outcome gap ++ turns_steps site notes turns gaps
turns_steps site _ _ _ = []

abbrev pub steps_of : Life → List Step
steps_of life = turns_steps life.site life.taken life.turns life.gaps

abbrev pub lives_steps : List Life → List Step
lives_steps lives = flat_map steps_of lives

-- ---- what was told

abbrev pub taken_through : List Life → List Note
taken_through lives = flat_map (λ life. life.taken) lives

-- the copies of these that were told Stored, by what was told of each
abbrev pub if_stored : Note → Outcome → List Note
if_stored note Stored = note ∷ []
if_stored note _ = []

abbrev pub stored_of : List Note → List Outcome → List Note
stored_of (note ∷ notes) (outcome ∷ outcomes) = if_stored note outcome ++ stored_of notes outcomes
stored_of _ _ = []

abbrev pub told_in : Life → List Note
told_in life = stored_of life.taken (map (λ told. told.outcome) life.turns)

-- each under its life's site
abbrev pub under : Site → List Note → List SiteNote
under site notes = map (λ note. record { site = site; note = note }) notes

abbrev pub told_through : List Life → List SiteNote
told_through lives = flat_map (λ life. under life.site (told_in life)) lives

-- how many turns broke
abbrev pub broken_in : List Told → ℕ
broken_in turns = count_by (λ told. breaks_last false told.outcome told.turn) turns

abbrev pub broken_through : List Life → ℕ
broken_through lives = sum_by (λ life. broken_in life.turns) lives
