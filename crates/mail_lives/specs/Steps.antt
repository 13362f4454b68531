-- What happens to a mailbox, step by step: to its bytes, and to its letters.
use Rattle.std.specs.Prelude.{◌≡◌, ℕ, ◌≤◌, List, [], ◌∷◌, ◌++◌, length, ⊤}
use Rattle.mail_world.specs.declared.Note.{Note}
use Rattle.mail_world.specs.Prefixes.{IsPrefix}
use Rattle.mail_world.specs.Records.{Calendar, record_of}
use Rattle.mail_world.specs.Turns.{addition}
use Rattle.mail_world.specs.Reading.{Letter, IsMailed, letter_of}
use Rattle.mail_lives.specs.ReadAs.{IsReadAs}
use Rattle.mail_lives.specs.Fates.{Fate, left_of}
use Rattle.mail_world.specs.Site.{Site}
use Rattle.mail_world.specs.Text.{IsOneLine}

-- a copy, and the site under which its record is written
pub record SiteNote : Type 0 where
  pub site : Site
  pub note : Note

-- its letter
abbrev pub letter_at : Calendar → SiteNote → Letter
letter_at calendar it = letter_of calendar it.site it.note

-- a server's site may be another one in each of its steps
pub data Step : Type 0 where
  -- others have it between two turns: of its letters they make that, and add these after them
  Others : List Fate → List Letter → Step
  -- a copy's turn in which its record is appended and kept
  Stores : Site → Note → Step
  -- a copy's turn that is missed, or in which the copy doesn't fit the quota
  Rests : Step
  -- a copy's turn that is cut off: the process or the machine stops in it, or the spool fails
  Tears : Site → Note → Step

-- ---- its bytes

-- what others leave is read as letters too
pub record HasLeft (fates : List Fate) (added : List Letter) (old new : List ℕ) : Type 0 where
  pub letters : List Letter
  pub was : IsReadAs old letters
  pub each : length fates ≡ length letters
  pub is : IsReadAs new (left_of fates letters ++ added)

-- some of what was to be appended is there
pub record HasTorn (calendar : Calendar) (site : Site) (note : Note) (old new : List ℕ) : Type 0 where
  pub prefix : List ℕ
  pub part : IsPrefix prefix (addition calendar site note old)
  pub left : new ≡ old ++ prefix

abbrev pub StepLeaves : Calendar → Step → List ℕ → List ℕ → Type 0
StepLeaves calendar (Others fates added) old new = HasLeft fates added old new
StepLeaves calendar (Stores site note) old new = new ≡ old ++ addition calendar site note old
StepLeaves calendar Rests old new = new ≡ old
StepLeaves calendar (Tears site note) old new = HasTorn calendar site note old new

abbrev pub StepsLeave : Calendar → List Step → List ℕ → List ℕ → Type 0
StepsLeave calendar [] old new = new ≡ old
StepsLeave calendar (step ∷ steps) old new =
    (between : List ℕ) × StepLeaves calendar step old between × StepsLeave calendar steps between new

-- ---- its letters

-- what a torn record is read as: a prefix of it by itself, which is no letter, or one, or one and a letter of nothing
pub record IsTornOf (calendar : Calendar) (site : Site) (note : Note) (torn : List Letter) : Type 0 where
  pub prefix : List ℕ
  pub part : IsPrefix prefix (record_of calendar site note)
  pub read : IsReadAs prefix torn
  pub few : length torn ≤ 2

abbrev pub StepComesTo : Calendar → Step → List Letter → List Letter → Type 0
StepComesTo calendar (Others fates added) old new =
    (length fates ≡ length old) × (new ≡ left_of fates old ++ added)
StepComesTo calendar (Stores site note) old new = new ≡ old ++ letter_of calendar site note ∷ []
StepComesTo calendar Rests old new = new ≡ old
StepComesTo calendar (Tears site note) old new =
    (torn : List Letter) × IsTornOf calendar site note torn × (new ≡ old ++ torn)

abbrev pub StepsComeTo : Calendar → List Step → List Letter → List Letter → Type 0
StepsComeTo calendar [] old new = new ≡ old
StepsComeTo calendar (step ∷ steps) old new =
    (between : List Letter) × StepComesTo calendar step old between × StepsComeTo calendar steps between new

-- the host's name is of one line, and notes are as transactions make them
abbrev pub IsMailedStep : Step → Type 0
IsMailedStep (Others fates added) = ⊤
IsMailedStep (Stores site note) = IsOneLine site.host × IsMailed note
IsMailedStep Rests = ⊤
IsMailedStep (Tears site note) = IsOneLine site.host × IsMailed note
