-- What the log of a lane or of a mailbox was told and what was shown.
use Rattle.std.specs.Prelude.{List, []}
use Rattle.box_worker.specs.declared.turn.TurnEnd.{TurnEnd}
use Rattle.lmtpd_log.specs.Line.{Line}
use Rattle.lmtpd_log.specs.Owed.{Heard}
use Rattle.lmtpd_log.specs.TurnLines.{NamedLine}

-- of a lane: what was heard, and the lines that were shown; of a mailbox: its turns, and the lines with its name
pub record LogHistory : Type 0 where
  pub heard : List Heard
  pub shown : List Line
  pub turns : List TurnEnd
  pub named : List NamedLine

abbrev pub no_history : LogHistory
no_history = record { heard = []; shown = []; turns = []; named = [] }
