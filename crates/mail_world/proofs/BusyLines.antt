-- A line whose mailbox is busy leads where the line does, or leaves the session as it is.
use Rattle.std.proofs.Common.{ℕ, Bool, true, false, length}
use Rattle.std.specs.Prelude.{nat_lt, if◌then◌else◌, Option, Some, None, Result, Ok}
use Rattle.mail_world.specs.declared.State.{State}
use Rattle.mail_world.specs.declared.State.TheVariants.{Sender, Recipients}
use Rattle.mail_world.specs.declared.BadCommand.{BadCommand}
use Rattle.mail_world.specs.declared.Reply.TheVariants as replies
use Rattle.mail_world.specs.declared.limits.TheConstants.{RECIPIENT_LIMIT}
use Rattle.mail_world.specs.Site.{Site}
use Rattle.mail_world.specs.Commands.{Command, Rcpt}
use Rattle.mail_world.specs.Targets.{box_of}
use Rattle.mail_world.specs.Session.{Session, Transition, says, put_off_recipient, on_busy_rcpt, on_command, on_busy_command}

module _ (P : Session → Type 0) where
  either : (t : Bool) (a b : Transition) → P a.next → P b.next → P (if t then a else b).next
  either true a b h k = h
  either false a b h k = k

  put_off : (s : Session) (box : Option ℕ) → P s → P (put_off_recipient s box).next
  put_off s None h = h
  put_off s (Some box) h = either (nat_lt (length s.recipients) RECIPIENT_LIMIT) (says replies.Busy s) (says replies.TooMany s) h h

  busy_rcpt : (state : State) (s : Session) (box : Option ℕ) → P s → P (on_busy_rcpt state s box).next
  busy_rcpt Sender s box h = put_off s box h
  busy_rcpt Recipients s box h = put_off s box h
  busy_rcpt _ s box h = h

  pub after_busy : (site : Site) (s : Session) (answer : Result Command BadCommand) → P s → P (on_command site s answer).next
      → P (on_busy_command site s answer).next
  after_busy site s (Ok (Rcpt target)) h k = busy_rcpt s.state s (box_of site target) h
  after_busy site s answer h k = k
