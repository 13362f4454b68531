use Rattle.mbox_spool.proofs.Taken.{OnErr-any}
use Rattle.lmtpd_check.specs.Checked.{finding_line, nul_line, nul_of}
use Rattle.lmtpd_check.proofs.After.{cut_before}
use Rattle.lmtpd_check.proofs.lines.write_lines.Goals as goal

pub returns-in_err-write_line-clause-err : goal.returns-in_err-write_line-clause-err
returns-in_err-write_line-clause-err g c = OnErr-any c.from_residual.result (
    cut_before _ _ (finding_line c.args.name.now c.args.finding) (nul_line c.args.name.now (nul_of c.args.finding)) c.in_err-write_line.ensures.err
    )
