-- Worked rows of the lines that are owed.
use Rattle.std.proofs.Common.{◌≡◌, [], ◌∷◌, Some, None, codes, refl, false, true}
use Rattle.mail_world.specs.declared.Outcome.TheVariants.{OverQuota}
use Rattle.mail_world.specs.declared.Reply.TheVariants.{SenderOk, RecipientOk, NoSuchBox, Result}
use Rattle.mail_world.specs.Commands.{command_at}
use Rattle.mail_world.specs.Paths.{forward_path}
use Rattle.mail_world.specs.Replies.{reply_text}
use Rattle.mail_world.specs.Rows.{site}
use Rattle.lmtp_talk.specs.Entries.{Entry, OfLine, OfCopy}
use Rattle.lmtpd_log.specs.Line.{Refused, Answered}
use Rattle.lmtpd_log.specs.Owed.{Heard, LineRules, lines_owed}

abbrev rules : LineRules
rules = record { site = site; start = 7; lane = 3; addresses = false; is_on = true }

abbrev told : Entry → Heard
told entry = record { entry = entry; traffic = None }

-- a letter to a name that is unknown and to ben, who has no room left
pub a_letter : lines_owed rules
    (told (OfLine (codes "MAIL FROM:<carl@a.example>") SenderOk)
    ∷ told (OfLine (codes "rcpt TO:<x@mx.example>") NoSuchBox)
    ∷ told (OfLine (codes "RCPT TO:<ben@mx.example>") RecipientOk)
    ∷ told (OfCopy 17 1234 (Some (codes "<1@a>")) (codes "relay.example") (Result OverQuota 1)) ∷ [])
    ≡ Refused 3 (codes "RCPT") (codes "550") (Some (codes "mailbox")) None
    ∷ Answered 7 3 17 (codes "ben") (codes "over-quota") (codes "452") 1234 (codes "relay.example") (Some (codes "<1@a>")) None
    ∷ []
unfolding reply_text command_at forward_path
a_letter = refl
