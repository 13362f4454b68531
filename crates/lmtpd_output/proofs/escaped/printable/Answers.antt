use Rattle.std.proofs.Common.{◌∙◌}
use Rattle.lmtpd_output.proofs.Printables.{all_printable, stays}
use Rattle.lmtpd_output.proofs.escaped.printable.Goals as goal

pub returns-clause-clean : goal.returns-clause-clean
returns-clause-clean c = rw c.percent_encode.ensures.text (all_printable _)

pub returns-clause-same : goal.returns-clause-same
returns-clause-same c = λ printable. c.percent_encode.ensures.text ∙ stays _ printable
