-- What a command means: its texts without where they lie in memory.
use Rattle.std.specs.Prelude.{option_map, Result, Ok, Err}
use Rattle.mail_world.specs.Grammar as grammar
use Rattle.mail_world.specs.Commands as m
use Rattle.mail_world.specs.declared.BadCommand.{BadCommand}
use Rattle.lmtp_text.specs.declared.command.Command.{Command}
use Rattle.lmtp_text.specs.declared.command.Command.TheVariants as read
use Rattle.lmtp_text.specs.declared.command.Target.{Target}

abbrev pub seen_target : Target → grammar.Target
seen_target t = record { local = t.local.now; quoted = t.quoted; domain = option_map (λ d. d.now) t.domain }

abbrev pub seen_command : Command → m.Command
seen_command (read.Lhlo client) = m.Lhlo client.now
seen_command (read.Mail sender utf8) = m.Mail sender.now utf8
seen_command (read.Rcpt target) = m.Rcpt (seen_target target)
seen_command read.StartData = m.StartData
seen_command read.Rset = m.Rset
seen_command read.Noop = m.Noop
seen_command read.Quit = m.Quit
seen_command read.Vrfy = m.Vrfy
seen_command read.Help = m.Help

abbrev pub seen_answer : Result Command BadCommand → m.Answer
seen_answer (Ok command) = Ok (seen_command command)
seen_answer (Err refusal) = Err refusal
