-- What contracts see of a lane's log in lines.
use Rattle.std.specs.Prelude.{◌≡◌, Bool, List, ◌++◌, if◌then◌else◌, nat_lt, vec_len}
use Rattle.lmtp_talk.specs.Entries.{Entry}
use Rattle.lmtpd_log.specs.declared.line_log.LineLog.{LineLog}
use Rattle.lmtpd_log.specs.declared.line_log.TheConstants.{WAITING_LIMIT}
use Rattle.lmtpd_log.specs.LaneLogs.{LogLines}
use Rattle.lmtpd_log.specs.Line.{Line}
use Rattle.lmtpd_log.specs.Owed.{Heard, LineRules, entries_heard, lines_owed}
use Rattle.lmtpd_log.specs.Rules.{lines_of, rules_of}

abbrev pub rules_in : {E C : Type 0} {g : _} → LineLog E C g → LineRules
rules_in log = rules_of log.setting

-- all that it was told
abbrev pub heard_by : {E C : Type 0} {g : _} → LineLog E C g → List Heard
heard_by log = log.history.list.heard

abbrev pub told_to : {E C : Type 0} {g : _} → LineLog E C g → List Entry
told_to log = entries_heard (heard_by log)

-- the lines that it owes and has not shown
abbrev pub waits : {E C : Type 0} {g : _} → LineLog E C g → List Line
waits log = lines_of log.waiting.items

-- the lines that are owed for all that it was told, and what shows them
abbrev pub owed_by : {E C : Type 0} {g : _} → LineLog E C g → List Line
owed_by log = lines_owed (rules_in log) (heard_by log)

abbrev pub sink_in : {E C : Type 0} {g : _} → LineLog E C g → E
sink_in log = log.sink

-- which lane its lines name, and whether they show addresses
abbrev pub lines_in : {E C : Type 0} {g : _} → LineLog E C g → LogLines
lines_in log = record { lane = log.setting.lane; addresses = log.setting.addresses }

-- one more has room
abbrev pub has_room : {E C : Type 0} {g : _} → LineLog E C g → Bool
has_room log = nat_lt (vec_len log.waiting) WAITING_LIMIT

-- nothing is shown, or, where one more has no room, what waits
abbrev pub ShowsForRoom : Bool → List Line → List Line → List Line → Type 0
ShowsForRoom room waiting old new = new ≡ (if room then old else old ++ waiting)
