use Rattle.std.proofs.Common.{List, ℕ, OnErr, subst}
use Rattle.lmtpd_output.specs.Output.{IsCutOff}
use Rattle.lmtpd_check.specs.Checked.{unlocked_line}
use Rattle.lmtpd_check.proofs.lines.write_unlocked.Goals as goal

pub returns-clause-err : goal.returns-clause-err
returns-clause-err g c =
    subst (λ (name : List ℕ). OnErr c.write_each.result
    (IsCutOff (g.E.Write.contents c.args.error.now) (g.E.Write.contents c.write_each.new.writer) (unlocked_line name)))
    c.as_bytes.ensures.value c.write_each.ensures.err
