-- What came of a copy that the words ask for, the line on standard error and the status.
use Rattle.std.specs.Prelude.{◌≡◌, ℕ, Bool, List, [], ◌∷◌, ◌++◌, codes, Option, Some, None}
use Rattle.mail_world.specs.Text.{lf}
use Rattle.mbox_file.specs.MailboxFile.{FileState}
use Rattle.lmtpd_words.specs.declared.words.CopyWords.{CopyWords}
use Rattle.lmtpd_setup.specs.Lines.{fault_line, mark, unread_line}
use Rattle.lmtpd_setup.specs.declared.fault.Fault.TheVariants as fault
use Rattle.lmtpd_copy.specs.Copied.{HasCopiedFile}
use Rattle.lmtpd_copy.specs.Target.{TargetState}
use Rattle.lmtpd_copy.specs.declared.fault.CopyFault.{CopyFault}
use Rattle.lmtpd_copy.specs.declared.fault.CopyFault.TheVariants.{Memory, Unread, InUse, Unmade, Device}
use Rattle.lmtpd.specs.declared.copy.Copied.{Copied}

-- the line for a mailbox whose locks others have; the first argument says whether standard error is the journal
abbrev pub in_use_line : Bool → List ℕ → List ℕ
in_use_line is_journal path = mark is_journal ++ (codes "lmtpd: " ++ path ++ (codes " in use" ++ (lf ∷ [])))

-- the line for a copy that can't be made
abbrev pub unmade_line : Bool → List ℕ → List ℕ
unmade_line is_journal path = mark is_journal ++ (codes "lmtpd: cannot make " ++ path ++ (lf ∷ []))

-- the line and the status after a copy of a file to another path
abbrev pub copy_line : Bool → List ℕ → List ℕ → Option CopyFault → List ℕ
copy_line is_journal file to None = []
copy_line is_journal file to (Some Memory) = fault_line is_journal fault.Memory
copy_line is_journal file to (Some Unread) = unread_line is_journal file
copy_line is_journal file to (Some InUse) = in_use_line is_journal file
copy_line is_journal file to (Some Unmade) = unmade_line is_journal to
copy_line is_journal file to (Some Device) = fault_line is_journal fault.Device

abbrev pub copy_status : Option CopyFault → ℕ
copy_status None = 0
copy_status (Some f) = 1

-- The file that the words name was copied to where they say, or it wasn't, with a fault: `source` and `unread` are what
-- contracts see of a mailbox's file, `target` of a copy's.
pub record IsCopiedAsAsked {F T : Type 0} (source : F → FileState) (unread : F → Option (List ℕ))
    (target : T → TargetState) (words : CopyWords) (copied : Copied) : Type 0 where
  pub file : copied.file.now ≡ words.file.now
  pub to : copied.to.now ≡ words.to.now
  pub done : copied.fault ≡ None → HasCopiedFile source unread target words.to.now
