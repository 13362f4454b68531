-- The file under a spool: its bytes, which of them a crash leaves, and its two locks. What a file of the system's tells
-- is what it was asked and what was answered: which bytes stand at a lock nobody knows but by their length and their
-- end.
use Rattle.std.specs.Prelude.{◌≡◌, ◌⊎◌, ℕ, ◌≤◌, Bool, true, false, List, [], ◌∷◌, ◌++◌, length, take, min}
use Rattle.mail_world.specs.Failures.{Rises}
use Rattle.mail_world.specs.Prefixes.{IsPrefix}
use Rattle.mbox_file.specs.Moment.{Moment}
use Rattle.mbox_file.specs.declared.file.FileEnd.{FileEnd}
use Rattle.mail_world.specs.Endings.{ending}
use Rattle.mbox_spool.specs.Tail.{ending_of}

-- Other programs change the file, and what the path names, only while a lock isn't held. Contracts see it in the calls
-- that ask for a lock or open the path again.
pub record FileState : Type 0 where
  -- what the open file holds
  pub bytes : List ℕ
  -- how many of its first bytes are kept through a crash
  pub kept : ℕ
  -- what stood there before a cut that may not be kept yet: a crash may leave that
  pub cut_off : List (List ℕ)
  -- the lock file is this holder's
  pub has_lock_file : Bool
  -- and so is the lock on the bytes of the open file
  pub has_range_lock : Bool
  -- the open file is the one that the path names
  pub is_named : Bool
  -- and the folder keeps that entry through a crash
  pub has_entry : Bool
  -- how often what the path names was opened anew
  pub openings : ℕ
  -- how often that couldn't be opened
  pub unopened : ℕ
  -- how often a call that asks for a turn wasn't granted
  pub refusals : ℕ
  -- how often the lock file couldn't be removed
  pub unremoved : ℕ
  -- what a crash might have left: while each call of this holder went on that wrote, kept or cut, and until its next
  -- one
  pub moments : List Moment
  -- how often a write, a keep or a cut failed
  pub faults : ℕ

-- what a crash may leave now
abbrev pub at_now : FileState → Moment
at_now file = record { kept = file.kept; contents = file.bytes ∷ file.cut_off }

-- and while these bytes are written, or while it is cut to so many of its first ones
abbrev pub at_write : FileState → List ℕ → Moment
at_write file text = at_now (record file { bytes = file.bytes ++ text })

abbrev pub at_cut : FileState → ℕ → Moment
at_cut file size = at_now (record file { kept = min file.kept size })

-- so it stands, but for what others may have changed
abbrev pub IsSharedSince : FileState → FileState → Type 0
IsSharedSince old new = new ≡ record old {
  bytes = new.bytes;
  kept = new.kept;
  is_named = new.is_named;
  has_entry = new.has_entry;
}

-- the lock file was made, and is this holder's
abbrev pub HasMadeLockFile : FileState → FileState → Type 0
HasMadeLockFile old new = IsSharedSince (record old { has_lock_file = true }) new

-- no lock file of this holder's is left, but where it couldn't be removed
pub record LeavesNoLockFile (old new : FileState) : Type 0 where
  pub removed : (new.has_lock_file ≡ false) ⊎ Rises old.unremoved new.unremoved
  pub no_fewer : old.unremoved ≤ new.unremoved

-- it wasn't made
pub record HasNotMadeLockFile (old new : FileState) : Type 0 where
  pub same : IsSharedSince (record old {
    has_lock_file = new.has_lock_file;
    refusals = new.refusals;
    unremoved = new.unremoved;
  }) new
  pub free : LeavesNoLockFile old new
  pub refused : Rises old.refusals new.refusals

-- the lock file was removed, or couldn't be
pub record HasRemovedLockFile (old new : FileState) : Type 0 where
  pub same : new ≡ record old { has_lock_file = new.has_lock_file; unremoved = new.unremoved }
  pub free : LeavesNoLockFile old new

-- the bytes were locked
abbrev pub HasLockedRange : FileState → FileState → Type 0
HasLockedRange old new = IsSharedSince (record old { has_range_lock = true }) new

-- they weren't
pub record HasNotLockedRange (old new : FileState) : Type 0 where
  pub same : IsSharedSince (record old { has_range_lock = false; refusals = new.refusals }) new
  pub refused : Rises old.refusals new.refusals

-- What is open now is what the path names or named; no lock goes with it, and whether a crash leaves its entry nobody
-- knows: it may have been made just now, or another program put it there.
pub record HasReopened (old new : FileState) : Type 0 where
  pub same : IsSharedSince (record old { has_range_lock = false; openings = new.openings }) new
  pub opened : Rises old.openings new.openings
  pub entry : new.has_entry ≡ false

-- what the path names couldn't be opened, and the old file stays open
pub record HasNotReopened (old new : FileState) : Type 0 where
  pub same : new ≡ record old { refusals = new.refusals; unopened = new.unopened }
  pub refused : Rises old.refusals new.refusals
  pub unopened : Rises old.unopened new.unopened

-- it changed nothing, and wasn't granted
pub record HasRefused (old new : FileState) : Type 0 where
  pub same : new ≡ record old { refusals = new.refusals }
  pub refused : Rises old.refusals new.refusals

-- the path was found to name another file, or none
abbrev pub HasFoundAnother : FileState → FileState → Type 0
HasFoundAnother old new = HasRefused (record old { is_named = false }) new

-- whether the path is found to name the open file
abbrev pub HasLooked : FileState → FileState → Bool → Type 0
HasLooked old new true = new ≡ record old { is_named = true }
HasLooked old new false = HasFoundAnother old new

-- Both locks are held, and the open file is the one that the path names: others neither write it nor put another in its
-- place.
pub record IsHeld (file : FileState) : Type 0 where
  pub lock_file : file.has_lock_file ≡ true
  pub range_lock : file.has_range_lock ≡ true
  pub named : file.is_named ≡ true

-- the folder was synced: a crash leaves the file at its path
abbrev pub KeepsEntry : FileState → FileState → Type 0
KeepsEntry old new = new ≡ record old { has_entry = true }

-- so the file ends
pub record IsEnd (file : FileState) (end : FileEnd) : Type 0 where
  pub at : end.at ≡ length file.bytes
  pub tail : ending_of end.tail ≡ ending file.bytes

-- The end was read. Which bytes stand there, and how many of them are kept, is told anew.
pub record HasMeasured (old new : FileState) (end : FileEnd) : Type 0 where
  pub same : new ≡ record old { bytes = new.bytes; kept = new.kept }
  pub is_end : IsEnd new end
  pub covered : new.kept ≤ length new.bytes

-- the bytes stand after what was there
abbrev pub HasAppended : FileState → FileState → List ℕ → Type 0
HasAppended old new text = new ≡ record old {
  bytes = old.bytes ++ text;
  moments = old.moments ++ at_write old text ∷ [];
}

-- a write failed after some of the bytes
pub record HasNotAppended (old new : FileState) (text : List ℕ) : Type 0 where
  pub prefix : List ℕ
  pub part : IsPrefix prefix text
  pub same : new ≡ record old {
    bytes = old.bytes ++ prefix;
    moments = old.moments ++ at_write old text ∷ [];
    faults = new.faults;
  }
  pub failed : Rises old.faults new.faults

-- a crash leaves all of it, and nothing that was cut off
abbrev pub KeepsFile : FileState → FileState → Type 0
KeepsFile old new = new ≡ record old {
  kept = length old.bytes;
  cut_off = [];
  moments = old.moments ++ at_now old ∷ [];
}

-- Nobody knows what a crash leaves of what wasn't kept before. No more is kept than there is.
pub record FailsToKeep (old new : FileState) : Type 0 where
  pub same : new ≡ record old {
    kept = new.kept;
    moments = old.moments ++ at_now old ∷ [];
    faults = new.faults;
  }
  pub kept : old.kept ≤ new.kept
  pub within : old.kept ≤ length old.bytes → new.kept ≤ length new.bytes
  pub failed : Rises old.faults new.faults

-- only that many of the first bytes are left, and until a keep a crash may leave all
abbrev pub HasCut : FileState → FileState → ℕ → Type 0
HasCut old new size = new ≡ record old {
  bytes = take size old.bytes;
  kept = min old.kept size;
  cut_off = old.bytes ∷ old.cut_off;
  moments = old.moments ++ at_cut old size ∷ [];
}

-- a cut failed
pub record HasNotCut (old new : FileState) (size : ℕ) : Type 0 where
  pub same : new ≡ record old {
    cut_off = old.bytes ∷ old.cut_off;
    moments = old.moments ++ at_cut old size ∷ [];
    faults = new.faults;
  }
  pub failed : Rises old.faults new.faults
