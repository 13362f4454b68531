-- The lines that the program says on standard error, and its status after them.
use Rattle.std.specs.Prelude.{ℕ, Bool, List, [], ◌∷◌, ◌++◌, codes, Option, Some, None, string_bytes}
use Rattle.log.specs.declared.level.Level.TheVariants as level
use Rattle.mail_world.specs.Text.{lf}
use Rattle.lmtpd_output.specs.Journal.{priority_in}
use Rattle.lmtpd_setup.specs.Faults.{fault_text, status_of}
use Rattle.lmtpd_setup.specs.declared.fault.Fault.{Fault}
use Rattle.lmtpd_setup.specs.declared.stop.Stop.{Stop}
use Rattle.lmtpd_setup.specs.declared.stop.Stop.TheVariants as stop

-- what stands before a line that ends the program; the first argument says whether standard error is the journal
abbrev pub mark : Bool → List ℕ
mark is_journal = priority_in is_journal level.Error

-- the line on standard error for a fault
abbrev pub fault_line : Bool → Fault → List ℕ
fault_line is_journal f = mark is_journal ++ (codes "lmtpd: " ++ fault_text f ++ (lf ∷ []))

-- the line of the log on a name that can't be used, and then that for the fault
abbrev pub named_lines : Bool → List ℕ → Fault → List ℕ
named_lines is_journal line f = mark is_journal ++ (line ++ fault_line is_journal f)

-- the line for a mailbox of that name whose file, with that suffix, can't be opened, whatever the cause
abbrev pub unopened_line : Bool → List ℕ → List ℕ → List ℕ
unopened_line is_journal name suffix = mark is_journal ++ (codes "lmtpd: cannot open " ++ name ++ (suffix ++ (lf ∷ [])))

-- the line for a file of mailboxes that can't be read
abbrev pub unread_line : Bool → List ℕ → List ℕ
unread_line is_journal path = mark is_journal ++ (codes "lmtpd: cannot read " ++ path ++ (lf ∷ []))

-- what the program itself says where it stops early; clap says its own text
abbrev pub stop_line : Bool → Stop → List ℕ
stop_line is_journal (stop.Words error) = []
stop_line is_journal (stop.Fault f) = fault_line is_journal f
stop_line is_journal (stop.Name f line) = named_lines is_journal (string_bytes line) f
stop_line is_journal (stop.Unopened name suffix) = unopened_line is_journal name.now suffix.now
stop_line is_journal (stop.NoFolder name suffix) = unopened_line is_journal name.now suffix.now
stop_line is_journal (stop.Unread path) = unread_line is_journal path.now

-- the line and the status where all was done that was asked for, but for a fault
abbrev pub line_after : Bool → Option Fault → List ℕ
line_after is_journal None = []
line_after is_journal (Some f) = fault_line is_journal f

abbrev pub status_after : Option Fault → ℕ
status_after None = 0
status_after (Some f) = status_of f
