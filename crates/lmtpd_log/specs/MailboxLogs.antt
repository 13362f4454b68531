-- What contracts see of a mailbox's log in lines.
use Rattle.std.specs.Prelude.{ℕ, List, string_bytes}
use Rattle.box_worker.specs.declared.turn.TurnEnd.{TurnEnd}
use Rattle.lmtpd_log.specs.declared.mailbox_log.MailboxLog.{MailboxLog}
use Rattle.lmtpd_log.specs.TurnLines.{NamedLine, turn_lines, with_name}

-- the turns that it was told
abbrev pub turns_told : {E : Type 0} {g : _} → MailboxLog E g → List TurnEnd
turns_told log = log.history.list.turns

-- the name of its mailbox
abbrev pub name_in : {E : Type 0} {g : _} → MailboxLog E g → List ℕ
name_in log = string_bytes log.name

-- the lines that are owed for all turns that it was told, and what shows them
abbrev pub owed_by : {E : Type 0} {g : _} → MailboxLog E g → List NamedLine
owed_by log = with_name (name_in log) (turn_lines (turns_told log))

abbrev pub sink_in : {E : Type 0} {g : _} → MailboxLog E g → E
sink_in log = log.sink
