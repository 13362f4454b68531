-- How the environment names the stream to the journal, and how the journal is told the priority of a line.
use Rattle.std.specs.Prelude.{ℕ, Bool, true, false, List, [], ◌++◌, codes, decimal}
use Rattle.log.specs.declared.level.Level.{Level}
use Rattle.log.specs.declared.level.Level.TheVariants as level

-- the device and the inode of a stream, in decimal, and a colon between them
abbrev pub stream_name : ℕ → ℕ → List ℕ
stream_name device inode = decimal device ++ (codes ":" ++ decimal inode)

-- what stands before a line of that level, as sd-daemon(3) has it: the number of syslog's priority in angle brackets
abbrev pub priority_text : Level → List ℕ
priority_text level.Error = codes "<3>"
priority_text level.Warn = codes "<4>"
priority_text level.Info = codes "<6>"
priority_text level.Debug = codes "<7>"
priority_text level.Trace = codes "<7>"

-- the same of a notice, which is less than an error, and where it may go elsewhere too
abbrev pub notice_in : Bool → List ℕ
notice_in true = codes "<5>"
notice_in false = []

-- the same of a level, where it may go elsewhere too, where nothing stands before it
abbrev pub priority_in : Bool → Level → List ℕ
priority_in true level = priority_text level
priority_in false level = []
