-- A mailbox that is copied under its locks. Whether what it is read as is what it tells, `is_known` says.
use Rattle.std.specs.Prelude.{◌≡◌, ◌⊎◌, ℕ, Bool, true, false, List, Option, Some, None, ⊤}
use Rattle.std.specs.Io.KnownBytes.{Appends}
use Rattle.mail_world.specs.Failures.{Rises}
use Rattle.mbox_file.specs.MailboxFile.{FileState, IsHeld}
use Rattle.mbox_rd.specs.Turn.{HasMissed, HasLetGo}
use Rattle.lmtpd_copy.specs.Target.{TargetState, HasMade}

-- all that there was to be read was written, after what stood there, where both are known
abbrev pub Copies : Option (List ℕ) → Option (List ℕ) → Option (List ℕ) → Type 0
Copies None old new = ⊤
Copies (Some text) old new = Appends old new text

-- the mailbox stays as it is, with both locks; calls may have failed
abbrev pub StaysLocked : FileState → FileState → Type 0
StaysLocked old new = new ≡ record old { refusals = new.refusals; faults = new.faults }

-- the copy stays made, whatever it holds
abbrev pub StaysMade : TargetState → TargetState → Type 0
StaysMade old new = new ≡ record old { bytes = new.bytes; kept = new.kept }

-- both locks are held, on the file that the path names, and nothing was written to it
pub record StandsLocked (old new : FileState) : Type 0 where
  pub held : IsHeld new
  pub unchanged : new.moments ≡ old.moments

-- Neither lock is left, but the lock file where it couldn't be removed, and nothing was written to the mailbox: the
-- locks were never had, or both were given back.
pub record GivesLocksBack (old new : FileState) : Type 0 where
  pub held : FileState
  pub stood : StandsLocked old held
  pub let_go : HasLetGo held new

abbrev pub IsFree : FileState → FileState → Type 0
IsFree old new = HasMissed old new ⊎ GivesLocksBack old new

-- nothing of the copy is left, but where it couldn't be removed
abbrev pub IsGone : TargetState → TargetState → Type 0
IsGone old new = (new.is_made ≡ false) ⊎ Rises old.unremoved new.unremoved

module _ {F T : Type 0} (is_known : Bool) (source : F → FileState) (unread : F → Option (List ℕ))
    (target_tells : Bool) (target : T → TargetState) where
  -- The copy, made and empty, was filled by all that the mailbox held while it was locked, and is kept so.
  pub record IsFilled (from_old from_new : F) (made : TargetState) (to_new : T) : Type 0 where
    -- the mailbox at its beginning
    pub first : F
    pub same : source first ≡ source from_old
    pub all : is_known ≡ true → unread first ≡ Some (source first).bytes
    pub copied : Copies (unread first) made.bytes (target to_new).bytes
    pub stays : source from_new ≡ source first
    pub kept : target_tells ≡ true → (target to_new).kept ≡ (target to_new).bytes
    pub is_made : target_tells ≡ true → StaysMade made (target to_new)

  -- it was made anew before
  pub record IsMadeAndFilled (from_old from_new : F) (to_old to_new : T) : Type 0 where
    pub made : T
    pub fresh : target_tells ≡ true → HasMade (target to_old) (target made)
    pub filled : IsFilled from_old from_new (target made) to_new

  -- Both locks were held, on the file that the path names, as the copy was made and filled, and then they were given
  -- back.
  pub record IsCopied (from_old from_new : F) (to_old to_new : T) : Type 0 where
    -- the mailbox with the locks, before the copy and after it
    pub locked : F
    pub done : F
    pub stands : StandsLocked (source from_old) (source locked)
    pub copied : IsMadeAndFilled locked done to_old to_new
    pub let_go : HasLetGo (source done) (source from_new)

-- Some mailbox's file and the copy's, which is made at the path `to`, and of which only the bytes may be known: both
-- locks were held, on the file that the path names, as all that the one had left was written to the other after it was
-- made. Then they were given back.
pub record HasCopiedFile {F T : Type 0} (source : F → FileState) (unread : F → Option (List ℕ))
    (target : T → TargetState) (to : List ℕ) : Type 0 where
  pub first : F
  pub held : IsHeld (source first)
  pub made : T
  pub after : T
  pub there : (target after).path ≡ to
  pub copied : Copies (unread first) (target made).bytes (target after).bytes
  pub last : F
  pub let_go : HasLetGo (source first) (source last)
