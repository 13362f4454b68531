-- The words of a site once the file was read that lists further mailboxes.
use Rattle.std.specs.Prelude.{◌≡◌, ◌⊎◌, ◌≤◌, length, Option, MatchOption, IfSome}
use Rattle.clap.specs.Words.{Text}
use Rattle.lmtpd_words.specs.Words.{HasListed}
use Rattle.lmtpd_words.specs.declared.words.TheConstants.{BOXES_FILE_LIMIT}
use Rattle.lmtpd_words.specs.declared.words.SiteWords.{SiteWords}
use Rattle.lmtpd_setup.specs.declared.fault.Fault.TheVariants as fault
use Rattle.lmtpd_setup.specs.declared.stop.Stop.{Stop}
use Rattle.lmtpd_setup.specs.declared.stop.Stop.TheVariants as stop

-- all of what was left to read, where that is known, within the limit
abbrev pub IsAllOfFile : Option Text → Text → Type 0
IsAllOfFile left text = IfSome left (λ all. text ≡ all) × (length text ≤ BOXES_FILE_LIMIT)

-- `remaining` is what contracts see of a file: what its reads give
module _ {F : Type 0} (remaining : F → Option Text) where
  -- the text of some file
  abbrev pub IsTextOfFile : Text → Type 0
  IsTextOfFile text = (file : F) × IsAllOfFile (remaining file) text

  -- the words, with the mailboxes that the file lists where they name one, and else as they are
  abbrev pub IsFilled : SiteWords → SiteWords → Type 0
  IsFilled words filled =
      MatchOption words.boxes_file (filled ≡ words)
      (λ path. (text : Text) × IsTextOfFile text × HasListed text words filled)

-- why they weren't filled: memory is lacking, or the file that they name can't be read
abbrev pub IsUnfilled : SiteWords → Stop → Type 0
IsUnfilled words s = (s ≡ stop.Fault fault.Memory) ⊎ MatchOption words.boxes_file ⊥ (λ path. s ≡ stop.Unread path)
