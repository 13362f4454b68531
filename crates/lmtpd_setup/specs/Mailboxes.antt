-- How a server's mailboxes are had.
use Rattle.std.specs.Prelude.{◌≡◌, ℕ, List, [], ◌++◌, Option, Some, codes}
use Rattle.std.specs.Borrow.{Bor}
use Rattle.mbox_file.specs.StdFile.{file_mode, file_path}
use Rattle.mbox_file.specs.declared.std_file.StdMailboxFile.{StdMailboxFile}
use Rattle.mbox_rd.specs.FileSpool.{FileSpool}
use Rattle.lmtp_threads.specs.declared.watched.Watched.{Watched}
use Rattle.lmtpd_log.specs.MailboxLogs.{name_in, turns_told}
use Rattle.lmtpd_log.specs.declared.mailbox_log.MailboxLog.{MailboxLog}
use Rattle.lmtpd_output.specs.Printable.{printable_text}
use Rattle.lmtpd_setup.specs.declared.access.Access.{Access}

-- the path of a mailbox's file, the permission bits with which it is made where it is missing, how many seconds of a
-- minute its locks are waited for, and what its log calls it
pub record Held : Type 0 where
  pub path : List ℕ
  pub mode : Option ℕ
  pub wait : ℕ
  pub name : List ℕ

-- how a mailbox is had that has a log beside it
abbrev pub held_as : {R F D E : Type 0} {g : _} → Watched (FileSpool (StdMailboxFile R F D)) (MailboxLog E g) → Held
held_as mailbox = record {
  path = file_path mailbox.inner.file;
  mode = file_mode mailbox.inner.file;
  wait = mailbox.inner.wait;
  name = name_in mailbox.observer;
}

-- its log was told of no turn yet
abbrev pub IsUntold : {S E : Type 0} {g : _} → Watched S (MailboxLog E g) → Type 0
IsUntold mailbox = turns_told mailbox.observer ≡ []

-- where a mailbox of that name is
abbrev pub path_at : Access → Bor (List ℕ) → List ℕ
path_at access name = access.folder.now ++ codes "/" ++ printable_text name.now ++ access.suffix.now

-- how a mailbox of that name is to be had
abbrev pub held_at : Access → Bor (List ℕ) → Held
held_at access name = record {
  path = path_at access name;
  mode = Some access.mode;
  wait = access.wait;
  name = printable_text name.now;
}
