-- What the mailboxes of a server share: each has the files of its own thread.
use Rattle.std.specs.Prelude.{◌≡◌, ℕ, suc, List, [], ◌∷◌, MatchOption, slice_get}
use Rattle.std.specs.Arc.{arc_value}
use Rattle.mail_post.specs.WorkerThreads.{worker_thread}
use Rattle.mbox_file.specs.StdFile.{first_path}
use Rattle.mbox_file.specs.declared.std_file.StdMailboxFile.{StdMailboxFile}
use Rattle.mbox_file.specs.declared.thread_files.ThreadFiles.{ThreadFiles}
use Rattle.mbox_rd.specs.FileSpool.{FileSpool}
use Rattle.lmtp_threads.specs.declared.watched.Watched.{Watched}
use Rattle.lmtpd_log.specs.declared.mailbox_log.MailboxLog.{MailboxLog}
use Rattle.lmtpd_setup.specs.declared.shares.ThreadShare.{ThreadShare}

-- the path of the first mailbox of the thread that shares these
abbrev pub path_shared : {R F D : Type 0} → ThreadShare R F D → List ℕ
path_shared share = first_path (arc_value share.files)

-- which files a mailbox shares
abbrev pub files_of : {R F D E : Type 0} {g : _} → Watched (FileSpool (StdMailboxFile R F D)) (MailboxLog E g)
    → ThreadFiles R F D
files_of mailbox = arc_value mailbox.inner.file.system.shared

-- these are what the thread shares that serves the mailbox at that place
abbrev pub HasFilesOf : {R F D : Type 0} → List (ThreadShare R F D) → ℕ → ThreadFiles R F D → Type 0
HasFilesOf shares place files =
    MatchOption (slice_get shares (worker_thread place)) ⊥ (λ share. files ≡ arc_value share.files)

-- so it is with each of these, by its place from that one on
abbrev pub EachFrom : {X : Type 0} → (ℕ → X → Type 0) → ℕ → List X → Type 0
EachFrom P place [] = Unit {0}
EachFrom P place (x ∷ xs) = P place x × EachFrom P (suc place) xs

-- each mailbox has what the thread shares that serves it
abbrev pub AreOfTheirThreads : {R F D E : Type 0} {g : _} → List (ThreadShare R F D)
    → List (Watched (FileSpool (StdMailboxFile R F D)) (MailboxLog E g)) → Type 0
AreOfTheirThreads shares mailboxes = EachFrom (λ place mailbox. HasFilesOf shares place (files_of mailbox)) 0 mailboxes
