use Rattle.std.proofs.Common.{rules}
use Rattle.lmtpd_output.proofs.Escapes.{shows_printable}
use Rattle.lmtpd_output.proofs.escaped.EscapedDisplay.fmt.Goals as goal

pub returns-clause-writes : goal.returns-clause-writes
returns-clause-writes g c =
    shows_printable _ c.write.result (g.D.Display.output c.args.self.now.0) _ c.write.new.self _ c.write.ensures.writes (search rules)
