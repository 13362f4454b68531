-- What a crash leaves of a mailbox's file at the moments of a turn: in bytes, and in letters.
use Rattle.std.specs.Prelude.{◌≡◌, ◌⊎◌, ℕ, List, [], ◌∷◌, ◌++◌, Some}
use Rattle.std.specs.List.{AllByRecursion}
use Rattle.mail_world.specs.declared.Note.{Note}
use Rattle.mail_world.specs.Endings.{mended}
use Rattle.mail_world.specs.Prefixes.{IsPrefix}
use Rattle.mail_world.specs.Reading.{Letter, IsMailed, letter_of}
use Rattle.mail_world.specs.Records.{Calendar}
use Rattle.mail_world.specs.Site.{Site}
use Rattle.mail_world.specs.Text.{IsOneLine}
use Rattle.mail_world.specs.Turns.{Standing, addition}
use Rattle.mail_lives.specs.ReadAs.{IsReadAs}
use Rattle.mail_lives.specs.Steps.{IsTornOf}
use Rattle.mbox_file.specs.MailboxFile.{FileState, at_now}
use Rattle.mbox_file.specs.Moment.{Moment, LeavesOne, LeavesAt}
use Rattle.mbox_rd.specs.FileSpool.{FileSpool, BeginsWith, contents_of}

-- ---- in bytes

-- A crash leaves only what is P: at each moment of the calls since then, and now.
pub record LeavesOnly (P : List ℕ → Type 0) (old new : FileState) : Type 0 where
  pub more : List Moment
  pub since : new.moments ≡ old.moments ++ more
  pub each : AllByRecursion (λ moment. (left : List ℕ) → LeavesAt moment left → P left) more
  pub now : (left : List ℕ) → LeavesAt (at_now new) left → P left

-- In a turn that began so a crash leaves a beginning of these bytes, and of what was kept at its lock all; or, where an
-- earlier turn cut the file back and that isn't kept, some of what it cut off.
abbrev pub LeavesOfTurn : Standing → List ℕ → FileState → FileState → Type 0
LeavesOfTurn lock bytes old new = LeavesOnly (LeavesOne lock.synced (bytes ∷ old.cut_off)) old new

-- by its file alone
abbrev pub LeavesInTurn : ℕ → List ℕ → FileState → FileState → Type 0
LeavesInTurn began bytes old new = (lock : Standing) → BeginsWith lock began old → LeavesOfTurn lock bytes old new

-- ---- in letters

-- A copy's turn at a mailbox that is read as these letters. Of what others left there a file of the system's tells at
-- the lock only its length and its end; so what was found there is any bytes that are mended as those that it tells.
pub record IsTurnOf (calendar : Calendar) (site : Site) (note : Note) (letters : List Letter)
    (lock : Standing) : Type 0 where
  pub host : IsOneLine site.host
  pub mailed : IsMailed note
  pub found : List ℕ
  pub read : IsReadAs found letters
  pub alike : mended found ≡ mended lock.bytes

-- what a turn that stores leaves where these bytes stood
abbrev pub whole_of : Calendar → Site → Note → List ℕ → List ℕ
whole_of calendar site note bytes = bytes ++ addition calendar site note bytes

-- the letters are there, and two others at most, which come of the copy's torn record
abbrev pub IsReadTorn : Calendar → Site → Note → List Letter → List ℕ → Type 0
IsReadTorn calendar site note letters left =
    (torn : List Letter) × IsTornOf calendar site note torn × IsReadAs left (letters ++ torn)

-- Of a turn in which these bytes are what stood at its lock and what was appended since: at each moment of a call a
-- crash leaves a beginning of them; and where a copy is appended, one that leaves what stood at the lock leaves the
-- letters, and of the copy a torn one at most: what is left of the copy stands after what was found.
pub record AnyMoment {F : Type 0} (state : F → FileState) (old new : FileSpool F) (bytes : List ℕ) : Type 0 where
  pub in_bytes : (lock : Standing) → old.log.began ≡ Some lock
      → LeavesOfTurn lock bytes (state old.file) (state new.file)
  pub in_letters : (lock : Standing) → old.log.began ≡ Some lock
      → (calendar : Calendar) (site : Site) (note : Note) (letters : List Letter)
      → (turn : IsTurnOf calendar site note letters lock) → IsPrefix bytes (whole_of calendar site note lock.bytes)
      → LeavesOnly (λ left. (rest : List ℕ) → left ≡ lock.bytes ++ rest
      → IsReadTorn calendar site note letters (turn.found ++ rest)
      ⊎ LeavesOne lock.synced (state old.file).cut_off left) (state old.file) (state new.file)

-- Where all of the record was appended a crash leaves all of it: with what was found, the letters and the copy's own.
abbrev pub Stores : {F : Type 0} → (F → FileState) → FileSpool F → FileState → Type 0
Stores state old new = (lock : Standing) → old.log.began ≡ Some lock
    → (calendar : Calendar) (site : Site) (note : Note) (letters : List Letter)
    → (turn : IsTurnOf calendar site note letters lock) → contents_of state old ≡ whole_of calendar site note lock.bytes
    → (left : List ℕ) → LeavesAt (at_now new) left → (left ≡ whole_of calendar site note lock.bytes)
    × IsReadAs (whole_of calendar site note turn.found) (letters ++ letter_of calendar site note ∷ [])
