-- Lives of a server at a mailbox that others leave alone, where a crash may leave any bytes behind those kept.
use Rattle.std.specs.Prelude.{◌≡◌, ℕ, List, [], ◌∷◌, ◌++◌, flat_map, map, Option}
use Rattle.std.specs.List.{AllByRecursion}
use Rattle.mail_world.specs.declared.Note.{Note}
use Rattle.mail_world.specs.declared.Outcome.{Outcome}
use Rattle.mail_world.specs.declared.Outcome.TheVariants.{Stored, Failed}
use Rattle.mail_world.specs.Endings.{mended}
use Rattle.mail_world.specs.Reading.{Letter, letter_of}
use Rattle.mail_world.specs.Records.{Calendar}
use Rattle.mail_world.specs.Site.{Site}
use Rattle.mail_world.specs.Turns.{Turn, NotHad, Had, Told, HaveTurns}
use Rattle.mail_lives.specs.Lives.{IsLeft, stored_of, under}
use Rattle.mail_lives.specs.Spoils.{Move, Adds, Spoils}
use Rattle.mail_lives.specs.Steps.{SiteNote}

-- the site, the copies that a worker took, their turns, and the bytes behind those that were kept as the life ended
pub record SpoiltLife : Type 0 where
  pub site : Site
  pub quota : Option ℕ
  pub taken : List Note
  pub turns : List Told
  pub spoilt : List ℕ

-- ---- its bytes

-- from the bytes before a turn to what is left after it
abbrev pub TurnKeeps : Calendar → Site → Note → Outcome → Turn → List ℕ → List ℕ → Type 0
TurnKeeps calendar site note outcome NotHad old new = new ≡ old
TurnKeeps calendar site note outcome (Had lock unlock) old new =
    (mended old ≡ mended lock.bytes) × IsLeft calendar site note outcome lock unlock old new

abbrev pub TurnsKeep : Calendar → Site → List Note → List Told → List ℕ → List ℕ → Type 0
TurnsKeep calendar site [] [] old new = new ≡ old
TurnsKeep calendar site (note ∷ notes) (told ∷ turns) old new =
    (between : List ℕ) × TurnKeeps calendar site note told.outcome told.turn old between
    × TurnsKeep calendar site notes turns between new
TurnsKeep calendar site _ _ old new = ⊥

abbrev pub LivesKeep : Calendar → List SpoiltLife → List ℕ → List ℕ → Type 0
LivesKeep calendar [] old new = new ≡ old
LivesKeep calendar (life ∷ lives) old new =
    (kept : List ℕ) × TurnsKeep calendar life.site life.taken life.turns old kept
    × LivesKeep calendar lives (kept ++ life.spoilt) new

-- Lives one after another, each with a site of its own: each copy has its turn, and each turn begins with what is left
-- of the one before it.
pub record HaveLivedSpoilt (calendar : Calendar) (lives : List SpoiltLife) (old new : List ℕ) : Type 0 where
  pub are : AllByRecursion (λ life. HaveTurns calendar life.site life.quota life.taken life.turns) lives
  pub keep : LivesKeep calendar lives old new

-- ---- its moves

-- A turn that stores adds its letter. One that was had and broke may leave any bytes; which ones, what is found doesn't
-- depend on.
abbrev pub turn_moves : Calendar → Site → Note → Outcome → Turn → List Move
turn_moves calendar site note Stored turn = Adds (letter_of calendar site note) ∷ []
turn_moves calendar site note Failed (Had lock unlock) = Spoils [] ∷ []
turn_moves calendar site note _ _ = []

abbrev pub turns_moves : Calendar → Site → List Note → List Told → List Move
turns_moves calendar site (note ∷ notes) (told ∷ turns) =
    turn_moves calendar site note told.outcome told.turn ++ turns_moves calendar site notes turns
turns_moves calendar site _ _ = []

abbrev pub moves_of : Calendar → SpoiltLife → List Move
moves_of calendar life = turns_moves calendar life.site life.taken life.turns ++ Spoils life.spoilt ∷ []

abbrev pub lives_moves : Calendar → List SpoiltLife → List Move
lives_moves calendar lives = flat_map (moves_of calendar) lives

-- ---- what was told

abbrev pub all_taken : List SpoiltLife → List Note
all_taken lives = flat_map (λ life. life.taken) lives

abbrev pub all_told : List SpoiltLife → List SiteNote
all_told lives =
    flat_map (λ life. under life.site (stored_of life.taken (map (λ told. told.outcome) life.turns))) lives

-- the letters that moves add
abbrev pub if_adds : Move → List Letter
if_adds (Adds letter) = letter ∷ []
if_adds (Spoils bytes) = []

abbrev pub added_in : List Move → List Letter
added_in moves = flat_map if_adds moves
