-- What contracts see of where lines go.
use Rattle.std.specs.Prelude.{List}
use Rattle.lmtpd_log.specs.Line.{Line}
use Rattle.lmtpd_log.specs.TurnLines.{NamedLine}
use Rattle.lmtpd_log.specs.declared.log_sink.LogSink.{LogSink}

abbrev pub shown_by : {G : Type 0} → LogSink G → List Line
shown_by sink = sink.history.list.shown

-- of mailboxes, each with the name of its own
abbrev pub named_by : {G : Type 0} → LogSink G → List NamedLine
named_by sink = sink.history.list.named
