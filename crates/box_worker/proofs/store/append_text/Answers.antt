use Rattle.mbox_spool.proofs.Taken.{OnErr-any, OnOk-map, OnErr-map}
use Rattle.box_worker.proofs.Messages.{text_taken, text_failed, text_failed_at_end}
use Rattle.box_worker.proofs.store.append_text.Goals as goal

pub returns-in_err-written-clause-err : goal.returns-in_err-written-clause-err
returns-in_err-written-clause-err g c =
    OnErr-any c.from_residual.result (text_failed _ _ c.args.begun c.args.hold.now.bytes c.in_err-written.ensures.err)

pub returns-clause-ok : goal.returns-clause-ok
returns-clause-ok g c =
    OnOk-map c.end.result (text_taken _ _ _ c.args.begun c.in_ok-written.written c.args.hold.now.bytes c.in_ok-written.ensures.ok) c.end.ensures.ok

pub returns-clause-err : goal.returns-clause-err
returns-clause-err g c =
    OnErr-map c.end.result (text_failed_at_end _ _ _ c.args.begun c.in_ok-written.written c.args.hold.now.bytes c.in_ok-written.ensures.ok) c.end.ensures.err
