-- How many descriptors a server needs, and how many files stay open where it may have so many.
use Rattle.std.specs.Prelude.{ℕ, ◌+◌, ◌-◌, ◌*◌, ◌/◌, min, max, nat_lt, nat_le, true, false, if◌then◌else◌}
use Rattle.mail_post.specs.WorkerThreads.{threads_for}
use Rattle.mail_post.specs.declared.kinds.TheConstants.{WORKER_THREADS}
use Rattle.mbox_file.specs.declared.open_files.TheConstants.{OPEN_FILES}
use Rattle.mbox_file.specs.declared.thread_files.FileLimits.{FileLimits}
use Rattle.lmtpd_setup.specs.declared.descriptors.TheConstants.{OF_A_TURN, OWN_DESCRIPTORS}

-- what a server needs so that each thread has a turn at once: of these one more each, from which its lock files are
-- linked
abbrev pub needed_for : ℕ → ℕ → ℕ
needed_for lanes threads = OWN_DESCRIPTORS + lanes + (OF_A_TURN + 1) * threads

-- what each thread keeps open of so many: an equal part, OPEN_FILES at most
abbrev pub part_of : ℕ → ℕ → ℕ
part_of spare threads = min (spare / max threads 1) OPEN_FILES

-- Each thread's mailboxes keep an equal part of what is left. A mailbox that has a thread of its own needs none of it
-- to stay open, since no other's turn needs what its own has. Where there are too few for a turn of each thread nothing
-- stays open between turns.
abbrev pub limits_within : ℕ → ℕ → ℕ → FileLimits
limits_within limit lanes boxes =
    if nat_lt limit (needed_for lanes (threads_for boxes)) then record { open_files = 0; has_source = false }
    else if nat_le boxes WORKER_THREADS then record { open_files = 1; has_source = true }
    else record {
      open_files = part_of (limit - needed_for lanes (threads_for boxes)) (threads_for boxes);
      has_source = true;
    }
