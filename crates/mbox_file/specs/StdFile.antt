-- What contracts see of a mailbox's file in the file system: which one it is, and how one is made.
use Rattle.std.specs.Prelude.{ℕ, List, Option, Some, None, string_bytes}
use Rattle.mbox_file.specs.declared.plain.Taken.{Taken}
use Rattle.mbox_file.specs.declared.plain.Taken.TheVariants as taken
use Rattle.mbox_file.specs.declared.std_file.StdMailboxFile.{StdMailboxFile}
use Rattle.mbox_file.specs.declared.thread_files.ThreadFiles.{ThreadFiles}

-- the permission bits with which such a file is made; none where none is made
abbrev pub mode_made : Taken → Option ℕ
mode_made (taken.Own mode) = Some mode
mode_made taken.Anybodys = None

-- the path at which it is opened, by each turn again
abbrev pub file_path : {R F D : Type 0} → StdMailboxFile R F D → List ℕ
file_path file = string_bytes file.system.path

-- the permission bits with which it is made where it is missing; none where none is made
abbrev pub file_mode : {R F D : Type 0} → StdMailboxFile R F D → Option ℕ
file_mode file = mode_made file.system.taken

-- the path of the first of the mailboxes that share these
abbrev pub first_path : {R F D : Type 0} → ThreadFiles R F D → List ℕ
first_path files = string_bytes files.path
