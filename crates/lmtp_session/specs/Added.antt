-- Which mailbox a command line would add as a recipient's.
use Rattle.std.specs.Prelude.{ℕ, nat_lt, List, length, if◌then◌else◌, Option, None, Result, Ok}
use Rattle.mail_world.specs.declared.State.{State}
use Rattle.mail_world.specs.declared.State.TheVariants.{Sender, Recipients}
use Rattle.mail_world.specs.declared.BadCommand.{BadCommand}
use Rattle.mail_world.specs.declared.limits.TheConstants.{RECIPIENT_LIMIT}
use Rattle.mail_world.specs.Site.{Site, extensions_of}
use Rattle.mail_world.specs.Commands.{Command, Rcpt, command_at}
use Rattle.mail_world.specs.Targets.{box_of}
use Rattle.mail_world.specs.Session.{Session}

-- a recipient is added after MAIL, while there is room for one more
abbrev pub with_room : Session → Option ℕ → Option ℕ
with_room s box = if nat_lt (length s.recipients) RECIPIENT_LIMIT then box else None

abbrev pub box_to_add : State → Session → Option ℕ → Option ℕ
box_to_add Sender s box = with_room s box
box_to_add Recipients s box = with_room s box
box_to_add _ s box = None

abbrev pub added_by : Site → Session → Result Command BadCommand → Option ℕ
added_by site s (Ok (Rcpt target)) = box_to_add s.state s (box_of site target)
added_by site s _ = None

abbrev pub added_box : Site → Session → List ℕ → Option ℕ
added_box site s line = added_by site s (command_at (extensions_of site) line)
