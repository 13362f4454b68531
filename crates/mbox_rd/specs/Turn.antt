-- How a turn at a spool's file begins and ends.
use Rattle.std.specs.Prelude.{◌≡◌, ◌⊎◌, ℕ, ℤ, pos, ◌≤◌, Bool, true, false, [], length, take, min, Option, Some, None, ⊤}
use Rattle.mail_world.specs.Failures.{Rises}
use Rattle.mbox_file.specs.declared.file.FileEnd.{FileEnd}
use Rattle.mbox_spool.specs.declared.spool.InUse.{InUse}
use Rattle.mbox_spool.specs.declared.spool.InUse.TheVariants as in_use
use Rattle.mbox_file.specs.MailboxFile.{FileState, IsSharedSince, LeavesNoLockFile, HasFoundAnother, IsEnd}

-- nothing of it was written, kept or cut
pub record IsUntouched (old new : FileState) : Type 0 where
  pub cut_off : new.cut_off ≡ old.cut_off
  pub moments : new.moments ≡ old.moments
  pub faults : new.faults ≡ old.faults

-- Both locks are held, on the file that the path names, and its end is known. Nothing was written.
pub record HasBegun (old new : FileState) (end : FileEnd) : Type 0 where
  pub lock_file : new.has_lock_file ≡ true
  pub range_lock : new.has_range_lock ≡ true
  pub named : new.is_named ≡ true
  pub is_end : IsEnd new end
  pub covered : new.kept ≤ length new.bytes
  pub openings : old.openings ≤ new.openings
  pub untouched : IsUntouched old new

-- Something was refused, no lock is left but where the lock file couldn't be removed, and nothing was written.
pub record HasMissed (old new : FileState) : Type 0 where
  pub range_lock : old.has_range_lock ≡ false → new.has_range_lock ≡ false
  pub free : LeavesNoLockFile old new
  pub refused : Rises old.refusals new.refusals
  pub openings : old.openings ≤ new.openings
  pub unopened : old.unopened ≤ new.unopened
  pub untouched : IsUntouched old new

-- What the path names was opened, or couldn't be. The lock file stays as it is.
pub record HasTriedToOpen (old new : FileState) : Type 0 where
  pub same : IsSharedSince (record old {
    has_range_lock = new.has_range_lock;
    openings = new.openings;
    unopened = new.unopened;
    refusals = new.refusals;
  }) new
  pub range_lock : old.has_range_lock ≡ false → new.has_range_lock ≡ false
  pub refusals : old.refusals ≤ new.refusals
  pub openings : old.openings ≤ new.openings
  pub unopened : old.unopened ≤ new.unopened
  pub tried : Rises old.openings new.openings ⊎ Rises old.unopened new.unopened

-- what is opened for the next try after one that was refused so: after the system's word alone
abbrev pub OpensFor : FileState → FileState → InUse → Type 0
OpensFor old new (in_use.System code) = HasTriedToOpen old new
OpensFor old new in_use.Locked = new ≡ old
OpensFor old new in_use.Failed = new ≡ old
OpensFor old new in_use.NotPlain = new ≡ old

-- The system's numbers for a folder that takes no lock file: rights, a file system that is only read, no room (EPERM,
-- EACCES, ENOSPC, EROFS, EDQUOT). They say nothing of the open file.
abbrev pub IsOfFolder : ℤ → Type 0
IsOfFolder code = (code ≡ pos 1) ⊎ (code ≡ pos 13) ⊎ (code ≡ pos 28) ⊎ (code ≡ pos 30) ⊎ (code ≡ pos 122)

-- it is the system's word, with such a number
abbrev pub IfSystem : InUse → (ℤ → Type 0) → Type 0
IfSystem (in_use.System code) P = P code
IfSystem in_use.Locked P = ⊥
IfSystem in_use.Failed P = ⊥
IfSystem in_use.NotPlain P = ⊥

-- A turn was missed for that reason. Where it is the system's word, and none of a folder's, what the path names was
-- opened then, or couldn't be.
abbrev pub OpensAfter : FileState → FileState → InUse → Type 0
OpensAfter old new (in_use.System code) =
    IsOfFolder code ⊎ Rises old.openings new.openings ⊎ Rises old.unopened new.unopened
OpensAfter old new in_use.Locked = ⊤
OpensAfter old new in_use.Failed = ⊤
OpensAfter old new in_use.NotPlain = ⊤

-- so it is of one try, which opens nothing where others hold a lock
abbrev pub OpensAfterTry : FileState → FileState → InUse → Type 0
OpensAfterTry old new (in_use.System code) = OpensAfter old new (in_use.System code)
OpensAfterTry old new in_use.Locked = new.openings ≡ old.openings
OpensAfterTry old new in_use.Failed = ⊤
OpensAfterTry old new in_use.NotPlain = ⊤

-- both locks were taken
abbrev pub HasTakenLocks : FileState → FileState → Type 0
HasTakenLocks old new = IsSharedSince (record old { has_lock_file = true; has_range_lock = true }) new

-- both were given back, but the lock file where it couldn't be removed
pub record HasLetGo (old new : FileState) : Type 0 where
  pub same : new ≡ record old {
    has_lock_file = new.has_lock_file;
    has_range_lock = false;
    unremoved = new.unremoved;
  }
  pub free : LeavesNoLockFile old new

-- its bytes and its locks stay
abbrev pub StaysThere : FileState → FileState → Type 0
StaysThere old new = new ≡ record old {
  kept = new.kept;
  cut_off = new.cut_off;
  moments = new.moments;
  faults = new.faults;
}

-- the path names the open file, which ends so
pub record HasFoundOwnEnd (old new : FileState) (end : FileEnd) : Type 0 where
  pub same : new ≡ record old { bytes = new.bytes; kept = new.kept; is_named = true; has_entry = new.has_entry }
  pub is_end : IsEnd new end
  pub covered : new.kept ≤ length new.bytes

-- Something was refused, and no lock changed.
pub record HasNotSeen (old new : FileState) : Type 0 where
  pub same : new ≡ record old { is_named = new.is_named; has_entry = new.has_entry; refusals = new.refusals }
  pub refused : Rises old.refusals new.refusals

-- what was seen at the path: the end of the open file, or that it isn't the open file
abbrev pub HasSeen : FileState → FileState → Option FileEnd → Type 0
HasSeen old new (Some end) = HasFoundOwnEnd old new end
HasSeen old new None = HasFoundAnother old new

-- what one try came to: a turn, or another file is open now
abbrev pub HasTried : FileState → FileState → Option FileEnd → Type 0
HasTried old new (Some end) = HasBegun old new end
HasTried old new None = HasMissed old new

-- between two tries
pub record IsBetweenTries (old new : FileState) : Type 0 where
  pub range_lock : old.has_range_lock ≡ false → new.has_range_lock ≡ false
  pub unremoved : old.unremoved ≤ new.unremoved
  pub refusals : old.refusals ≤ new.refusals
  pub openings : old.openings ≤ new.openings
  pub unopened : old.unopened ≤ new.unopened
  pub untouched : IsUntouched old new

-- only that many of the first bytes are left, and a crash leaves them
pub record IsCutForGood (old new : FileState) (size : ℕ) : Type 0 where
  pub bytes : new.bytes ≡ take size old.bytes
  pub kept : new.kept ≡ length new.bytes
  pub cut_off : new.cut_off ≡ []

-- so it is; or the cut failed, or that it be kept. Of the bytes that were kept no more than what was cut is lost.
pub record IsCutBack (old new : FileState) (size : ℕ) : Type 0 where
  pub left : (new.bytes ≡ old.bytes) ⊎ (new.bytes ≡ take size old.bytes)
  pub cut : IsCutForGood old new size ⊎ Rises old.faults new.faults
  pub kept : old.kept ≤ length old.bytes → (min old.kept size ≤ new.kept) × (new.kept ≤ length new.bytes)

-- the file was cut back, and its locks are as before
pub record HasCutBack (old new : FileState) (size : ℕ) : Type 0 where
  pub same : new ≡ record old {
    bytes = new.bytes;
    kept = new.kept;
    cut_off = new.cut_off;
    moments = new.moments;
    faults = new.faults;
  }
  pub is_cut : IsCutBack old new size

-- Both locks were given back, but the lock file where it couldn't be removed. The bytes stay, or, where the turn broke,
-- they were cut back before.
pub record HasEndedTurn (old new : FileState) (is_broken : Bool) (size : ℕ) : Type 0 where
  pub range_lock : new.has_range_lock ≡ false
  pub free : LeavesNoLockFile old new
  pub stays : is_broken ≡ false → HasLetGo old new
  pub is_cut : is_broken ≡ true → IsCutBack old new size
