use Rattle.std.proofs.Common.{◌≡◌, ◌++◌, take}
use Rattle.lmtpd_log.specs.Rules.{lines_of}
use Rattle.lmtpd_log.proofs.keeping.show_all.Given as goal

abbrev pub invariant-loop-line : goal.invariant-loop-line
invariant-loop-line g l =
    g.E.LineSink.shown l.sink ≡ g.E.LineSink.shown l.initial.sink ++ lines_of (take l.line-index l.waiting)
