-- Which lines a mailbox's log owes for the turns that it was told.
use Rattle.std.specs.Prelude.{ℕ, true, false, List, [], ◌∷◌, ◌++◌, map, Option, Some, None, if◌then◌else◌}
use Rattle.std.specs.Option.{option_map_or}
use Rattle.box_worker.specs.declared.turn.TurnEnd.{TurnEnd}
use Rattle.box_worker.specs.declared.turn.TurnEnd.TheVariants.{Missed, Over, Stored, Broke}
use Rattle.lmtpd_log.specs.declared.condition.Condition.{Condition}
use Rattle.lmtpd_log.specs.declared.mailbox_line.MailboxLine.{MailboxLine}
use Rattle.lmtpd_log.specs.declared.mailbox_line.MailboxLine.TheVariants.{InUse, FreeAgain, Failed, StoresAgain}

-- before the first turn
abbrev pub at_first : Condition
at_first = record { is_in_use = false; has_failed = false }

-- as the next turn finds it
abbrev pub after_turn : Condition → TurnEnd → Condition
after_turn c (Missed reason) = record { is_in_use = true; has_failed = c.has_failed }
after_turn c Over = record { is_in_use = false; has_failed = c.has_failed }
after_turn c Stored = record { is_in_use = false; has_failed = false }
after_turn c (Broke reason) = record { is_in_use = false; has_failed = true }

-- of a turn that was had, where the one before was missed
abbrev pub free_line : Condition → Option MailboxLine
free_line c = if c.is_in_use then Some FreeAgain else None

-- the line on the mailbox's use: of a turn that was missed, where the one before wasn't, or of one that was had
abbrev pub use_line : Condition → TurnEnd → Option MailboxLine
use_line c (Missed reason) = if c.is_in_use then None else Some (InUse reason)
use_line c Over = free_line c
use_line c Stored = free_line c
use_line c (Broke reason) = free_line c

-- the line on what it stores: of a turn that broke, the first since one stored, or that stored, the first since one
-- broke
abbrev pub store_line : Condition → TurnEnd → Option MailboxLine
store_line c (Missed reason) = None
store_line c Over = None
store_line c Stored = if c.has_failed then Some StoresAgain else None
store_line c (Broke reason) = if c.has_failed then None else Some (Failed reason)

-- one or none
abbrev pub lines_in : Option MailboxLine → List MailboxLine
lines_in line = option_map_or (λ l. l ∷ []) line []

-- those of one turn, which finds the mailbox so
abbrev pub lines_of_turn : Condition → TurnEnd → List MailboxLine
lines_of_turn c end = lines_in (use_line c end) ++ lines_in (store_line c end)

abbrev pub lines_from : Condition → List TurnEnd → List MailboxLine
lines_from c [] = []
lines_from c (end ∷ ends) = lines_of_turn c end ++ lines_from (after_turn c end) ends

abbrev pub condition_from : Condition → List TurnEnd → Condition
condition_from c [] = c
condition_from c (end ∷ ends) = condition_from (after_turn c end) ends

-- the lines owed for all turns that a log was told, in their order
abbrev pub turn_lines : List TurnEnd → List MailboxLine
turn_lines ends = lines_from at_first ends

-- as the turn after these finds it
abbrev pub condition_after : List TurnEnd → Condition
condition_after ends = condition_from at_first ends

-- a line and the name of its mailbox
abbrev pub NamedLine : Type 0
NamedLine = List ℕ × MailboxLine

abbrev pub with_name : List ℕ → List MailboxLine → List NamedLine
with_name name lines = map (λ line. (name, line)) lines
