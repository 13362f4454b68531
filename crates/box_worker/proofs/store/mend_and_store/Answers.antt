use Rattle.mbox_spool.proofs.Taken.{OnErr-any, OnOk-map, OnErr-map}
use Rattle.box_worker.proofs.Measuring.{mended_and_kept, mended_and_lost, not_mended}
use Rattle.box_worker.proofs.store.mend_and_store.Goals as goal

pub returns-in_err-mend-clause-err : goal.returns-in_err-mend-clause-err
returns-in_err-mend-clause-err g c =
    OnErr-any c.from_residual.result (not_mended _ _ _ c.in_err-mend.ensures.err)

pub returns-clause-ok : goal.returns-clause-ok
returns-clause-ok g c = OnOk-map c.store.result (mended_and_kept _ _ _ _ c.in_ok-mend.ensures.ok) c.store.ensures.ok

pub returns-clause-err : goal.returns-clause-err
returns-clause-err g c = OnErr-map c.store.result (mended_and_lost _ _ _ _ c.in_ok-mend.ensures.ok) c.store.ensures.err
