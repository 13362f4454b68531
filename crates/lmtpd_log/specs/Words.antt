-- What the log calls things.
use Rattle.std.specs.Prelude.{ℕ, Bool, true, false, List, codes}
use Rattle.mail_world.specs.declared.Outcome.{Outcome}
use Rattle.mail_world.specs.declared.Outcome.TheVariants as outcomes
use Rattle.mail_world.specs.declared.Reply.{Reply}
use Rattle.mail_world.specs.declared.Reply.TheVariants as replies
use Rattle.lmtp_talk.specs.declared.ending.EndCause.{EndCause}
use Rattle.lmtp_talk.specs.declared.ending.EndCause.TheVariants as ends
use Rattle.lmtpd_log.specs.declared.pairs.Unknown.{Unknown}
use Rattle.lmtpd_log.specs.declared.pairs.Unknown.TheVariants as unknown

-- the cause that a conversation ended for
abbrev pub cause_text : EndCause → List ℕ
cause_text ends.Quit = codes "quit"
cause_text ends.EndOfInput = codes "end-of-input"
cause_text ends.ReadFault = codes "read-fault"
cause_text ends.WriteFault = codes "write-fault"
cause_text ends.Stopped = codes "stopped"
cause_text ends.ReadBound = codes "read-bound"

-- what became of a copy
abbrev pub outcome_word : Outcome → List ℕ
outcome_word outcomes.Stored = codes "stored"
outcome_word outcomes.Failed = codes "not-stored"
outcome_word outcomes.NoRoom = codes "no-room"
outcome_word outcomes.TooLarge = codes "too-large"
outcome_word outcomes.Malformed = codes "malformed"
outcome_word outcomes.OverQuota = codes "over-quota"

-- why a recipient isn't known
abbrev pub unknown_word : Unknown → List ℕ
unknown_word unknown.Domain = codes "domain"
unknown_word unknown.Mailbox = codes "mailbox"

-- the replies that refuse a command
abbrev pub is_refusal : Reply → Bool
is_refusal (replies.Refused why) = true
is_refusal replies.NoSuchBox = true
is_refusal replies.TooMany = true
is_refusal replies.Busy = true
is_refusal replies.OutOfOrder = true
is_refusal replies.LineTooLong = true
is_refusal _ = false
