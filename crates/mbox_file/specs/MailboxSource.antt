-- The file of a mailbox that is read under its locks.
use Rattle.std.specs.Prelude.{◌≡◌}
use Rattle.mbox_file.specs.MailboxFile.{FileState}

-- it couldn't be read, and nothing else changed
abbrev pub HasNotRead : FileState → FileState → Type 0
HasNotRead old new = new ≡ record old { faults = new.faults }
