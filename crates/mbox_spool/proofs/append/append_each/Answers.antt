use Rattle.mbox_spool.proofs.Taken.{OnErr-any, SpoolFailed-within}
use Rattle.mbox_spool.proofs.append.append_each.Goals as goal

pub returns-in_err-append_all-clause-err : goal.returns-in_err-append_all-clause-err
returns-in_err-append_all-clause-err g c = OnErr-any c.from_residual.result (
    SpoolFailed-within (λ piece. piece.now) _ _ _ c.args.pieces.now c.loop-piece.piece-index _ c.loop-piece-test.true c.loop-piece.invariant
    c.in_err-append_all.ensures.err
    )
