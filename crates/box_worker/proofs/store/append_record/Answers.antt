use Rattle.mbox_spool.proofs.Taken.{OnErr-any, OnOk-map, OnErr-map}
use Rattle.box_worker.proofs.Messages.{head_failed, record_took, record_failed}
use Rattle.box_worker.proofs.store.append_record.Goals as goal

pub returns-in_err-begun-clause-err : goal.returns-in_err-begun-clause-err
returns-in_err-begun-clause-err g c =
    OnErr-any c.from_residual.result (head_failed c.args.head.now c.args.hold.now.bytes _ _ c.in_err-begun.ensures.err)

pub returns-clause-ok : goal.returns-clause-ok
returns-clause-ok g c =
    OnOk-map c.append_text.result (record_took c.args.head.now c.args.hold.now.bytes c.in_ok-begun.begun c.in_ok-begun.ensures.new
    _ _ _ c.in_ok-begun.ensures.ok) c.append_text.ensures.ok

pub returns-clause-err : goal.returns-clause-err
returns-clause-err g c =
    OnErr-map c.append_text.result
    (record_failed c.args.head.now c.args.hold.now.bytes c.in_ok-begun.begun c.in_ok-begun.ensures.new
    _ _ _ c.in_ok-begun.ensures.ok) c.append_text.ensures.err
