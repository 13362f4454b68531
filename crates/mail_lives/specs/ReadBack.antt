-- What is found after steps of the letters that stood there before them, and of those that were stored in them.
use Rattle.std.specs.Prelude.{◌≡◌, ℕ, ◌+◌, ◌≤◌, Bool, true, false, List, [], ◌∷◌, ◌++◌, length, flat_map, count_by, ⊤}
use Rattle.std.specs.List.{AllByRecursion}
use Rattle.mail_world.specs.declared.Note.{Note}
use Rattle.mail_world.specs.Prefixes.{IsPrefix}
use Rattle.mail_world.specs.Quotas.{marked}
use Rattle.mail_world.specs.Records.{Calendar}
use Rattle.mail_world.specs.Reading.{Letter, letter_of}
use Rattle.mail_lives.specs.Fates.{Untouched, left_of}
use Rattle.mail_lives.specs.Steps.{SiteNote, Step, Others, Stores, Tears, StepsComeTo}
use Rattle.mail_world.specs.Site.{Site}

-- the copies that are stored, in the order of their turns
abbrev pub if_stores : Step → List SiteNote
if_stores (Stores site note) = record { site = site; note = note } ∷ []
if_stores _ = []

abbrev pub stored_in : List Step → List SiteNote
stored_in steps = flat_map if_stores steps

-- how many turns are cut off
abbrev pub tears : Step → Bool
tears (Tears site note) = true
tears _ = false

abbrev pub torn_in : List Step → ℕ
torn_in steps = count_by tears steps

-- others change no letter, remove none and add none
abbrev pub LeavesAlone : Step → Type 0
LeavesAlone (Others fates added) = AllByRecursion (λ fate. fate ≡ Untouched) fates × (added ≡ [])
LeavesAlone _ = ⊤

-- these letters stand among all, each once and in this order, and so many others at most
pub record StandAmong (these : List Letter) (others : ℕ) (all : List Letter) : Type 0 where
  pub marks : List Bool
  pub each : length marks ≡ length all
  pub are : marked marks all ≡ these
  pub few : length all ≤ length these + others

-- what others make in these steps of letters that stand first
abbrev pub left_through : List Step → List Letter → List Letter
left_through [] letters = letters
left_through (Others fates added ∷ steps) letters = left_through steps (left_of fates letters)
left_through (_ ∷ steps) letters = left_through steps letters

-- The copy is stored under this site in one of these steps: its letter is added after all that stand there then, and
-- what others make later of these and of it stands first at the end.
pub record IsReadBack (calendar : Calendar) (steps : List Step) (old new : List Letter) (site : Site) (note : Note)
    : Type 0 where
  pub earlier : List Step
  pub later : List Step
  pub whole : steps ≡ earlier ++ Stores site note ∷ later
  pub before : List Letter
  pub come : StepsComeTo calendar earlier old before
  pub stands : IsPrefix (left_through later (before ++ letter_of calendar site note ∷ [])) new
