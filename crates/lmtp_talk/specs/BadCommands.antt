-- Which replies are to bad commands, and how many were said.
use Rattle.std.specs.Prelude.{◌≡◌, ℕ, Bool, true, false, ◌+◌, ◌-◌, ◌^◌, min}
use Rattle.mail_world.specs.declared.Reply.{Reply}
use Rattle.mail_world.specs.declared.Reply.TheVariants.{Refused, OutOfOrder, LineTooLong}
use Rattle.mail_world.specs.declared.BadCommand.{BadCommand}
use Rattle.mail_world.specs.declared.BadCommand.TheVariants.{TooLarge}
use Rattle.mail_world.specs.Session.{Input}
use Rattle.lmtp_session.specs.declared.act.Act.{Act}
use Rattle.lmtp_session.specs.declared.act.Act.TheVariants.{Say}
use Rattle.lmtp_session.specs.Steps.{IsStep}
use Rattle.lmtp_talk.specs.declared.dialogue.Dialogue.{Dialogue}

-- a line that is no command of this server, or a wrong one, but for a message that is said to be too large
abbrev pub is_wrong : BadCommand → Bool
is_wrong TooLarge = false
is_wrong _ = true

-- its code is 500, 501, 502, 503 or 555
abbrev pub is_bad : Reply → Bool
is_bad (Refused why) = is_wrong why
is_bad OutOfOrder = true
is_bad LineTooLong = true
is_bad _ = false

-- a count that stays at its largest value
abbrev pub one_more : ℕ → ℕ
one_more n = min (n + 1) (2 ^ 32 - 1)

abbrev pub one_more_if : Bool → ℕ → ℕ
one_more_if true n = one_more n
one_more_if false n = n

-- how many there are once the reply of that act was said too
abbrev pub bad_after : Act → ℕ → ℕ
bad_after (Say reply) n = one_more_if (is_bad reply) n
bad_after _ n = n

-- the session has taken the input, and what it said to that is counted
pub record CountsLine (input : Input) (old new : Dialogue) : Type 0 where
  pub act : Act
  pub step : IsStep old.session input act new.session
  pub counts : new.bad_commands ≡ bad_after act old.bad_commands
