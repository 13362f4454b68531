use Rattle.mbox_spool.proofs.Taken.{OnErr-any}
use Rattle.lmtpd_output.proofs.Written.{writes_text, breaks_text}
use Rattle.lmtpd_output.proofs.bytes.write_each.Goals as goal

pub returns-in_err-write_bytes-clause-err : goal.returns-in_err-write_bytes-clause-err
returns-in_err-write_bytes-clause-err g c = OnErr-any c.from_residual.result (
    breaks_text (λ piece. piece.now) _ _ _ c.args.pieces.now c.loop-piece.piece-index _ c.loop-piece-test.true c.loop-piece.invariant
    c.in_err-write_bytes.ensures.err
    )

pub loop-piece-preserved : goal.loop-piece-preserved
loop-piece-preserved g c =
    writes_text (λ piece. piece.now) _ _ _ c.args.pieces.now c.loop-piece.piece-index _ c.loop-piece-test.true c.loop-piece.invariant
    c.in_ok-write_bytes.ensures.ok
