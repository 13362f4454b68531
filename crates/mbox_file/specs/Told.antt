-- What a file of the system's tells: computed from what it was asked and what was answered, and from nothing else.
use Rattle.std.specs.Prelude.{◌≡◌, ℕ, ◌+◌, ◌-◌, ◌≤◌, true, false, min, List, [], ◌∷◌, ◌++◌, length, take, replicate}
use Rattle.mail_world.specs.Endings.{ending}
use Rattle.mbox_spool.specs.Tail.{ending_of}
use Rattle.mbox_file.specs.MailboxFile.{FileState, at_now, at_write, at_cut}
use Rattle.mbox_file.specs.declared.file.FileEnd.{FileEnd}
use Rattle.mbox_file.specs.declared.told.Step.{Step}
use Rattle.mbox_file.specs.declared.told.Step.TheVariants as step

-- before anything was asked
abbrev pub at_start : FileState
at_start = record {
  bytes = [];
  kept = 0;
  cut_off = [];
  has_lock_file = false;
  has_range_lock = false;
  is_named = false;
  has_entry = false;
  openings = 0;
  unopened = 0;
  refusals = 0;
  unremoved = 0;
  moments = [];
  faults = 0;
}

-- So many bytes that end in these. Nobody read those before them, and zeros stand for them.
abbrev pub bytes_ending : ℕ → List ℕ → List ℕ
bytes_ending size last = replicate (size - length last) 0 ++ last

-- the file ends so, and by these last bytes that is known
pub record IsEndBy (last : List ℕ) (end : FileEnd) : Type 0 where
  pub within : length last ≤ end.at
  pub tail : ending_of end.tail ≡ ending (bytes_ending end.at last)

-- How the file stands after that. What the path names, and whether a crash leaves that, has to be looked at under each
-- lock, and what is kept of bytes that others may have written nobody knows.
abbrev pub after : FileState → Step → FileState
after old step.LockFileMade = record old { has_lock_file = true; is_named = false; has_entry = false }
after old step.LockFileRefused = record old { has_entry = false; refusals = old.refusals + 1 }
after old step.LockFileRemoved = record old { has_lock_file = false }
after old step.LockFileStays = record old { unremoved = old.unremoved + 1 }
after old step.RangeLocked = record old { has_range_lock = true; is_named = false }
after old step.RangeRefused = record old { has_range_lock = false; refusals = old.refusals + 1 }
after old step.RangeUnlocked = record old { has_range_lock = false }
after old step.Rested = record old { has_range_lock = false }
after old step.Named = record old { is_named = true }
after old step.NotNamed = record old { is_named = false; refusals = old.refusals + 1 }
after old (step.EntrySeen entry) = record old { has_entry = entry.now.is_kept }
after old step.NoFolder = record old { has_entry = true }
after old step.Refused = record old { refusals = old.refusals + 1 }
after old step.Reopened = record old {
  has_range_lock = false;
  is_named = false;
  has_entry = false;
  openings = old.openings + 1;
}
after old step.NotReopened = record old { refusals = old.refusals + 1; unopened = old.unopened + 1 }
after old (step.Measured size last) = record old { bytes = bytes_ending size last.now; kept = 0 }
after old (step.Holds bytes) = record old { bytes = bytes.now; kept = length bytes.now }
after old (step.Wrote bytes) = record old {
  bytes = old.bytes ++ bytes.now;
  moments = old.moments ++ at_write old bytes.now ∷ [];
}
after old (step.WroteInPart bytes count) = record old {
  bytes = old.bytes ++ take count bytes.now;
  moments = old.moments ++ at_write old bytes.now ∷ [];
  faults = old.faults + 1;
}
after old step.Kept = record old {
  kept = length old.bytes;
  cut_off = [];
  moments = old.moments ++ at_now old ∷ [];
}
after old step.NotKept = record old { moments = old.moments ++ at_now old ∷ []; faults = old.faults + 1 }
after old (step.Cut size) = record old {
  bytes = take size old.bytes;
  kept = min old.kept size;
  cut_off = old.bytes ∷ old.cut_off;
  moments = old.moments ++ at_cut old size ∷ [];
}
after old (step.NotCut size) = record old {
  cut_off = old.bytes ∷ old.cut_off;
  moments = old.moments ++ at_cut old size ∷ [];
  faults = old.faults + 1;
}
