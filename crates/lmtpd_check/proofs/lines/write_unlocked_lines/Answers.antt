use Rattle.mbox_spool.proofs.Taken.{OnErr-any}
use Rattle.lmtpd_output.proofs.Written.{writes_text, breaks_text}
use Rattle.lmtpd_check.specs.Checked.{unlocked_line}
use Rattle.lmtpd_check.proofs.lines.write_unlocked_lines.Goals as goal

pub returns-in_err-write_unlocked-clause-err : goal.returns-in_err-write_unlocked-clause-err
returns-in_err-write_unlocked-clause-err g c = OnErr-any c.from_residual.result (
    breaks_text (λ name. unlocked_line name.now) _ _ _ c.args.names.now c.loop-name.name-index _ c.loop-name-test.true c.loop-name.invariant
    c.in_err-write_unlocked.ensures.err
    )

pub loop-name-preserved : goal.loop-name-preserved
loop-name-preserved g c =
    writes_text (λ name. unlocked_line name.now) _ _ _ c.args.names.now c.loop-name.name-index _ c.loop-name-test.true c.loop-name.invariant
    c.in_ok-write_unlocked.ensures.ok
