use Rattle.mbox_record.specs.Writing.{Writer}
use Rattle.mbox_spool.proofs.Taken.{OnErr-any, OnErr-map}
use Rattle.mbox_record.proofs.Written.{end_fails, held_fails}
use Rattle.mbox_record.proofs.record.RecordWriter.end.Goals as goal

pub returns-in_err-quoted-clause-err : goal.returns-in_err-quoted-clause-err
returns-in_err-quoted-clause-err g c =
    let writer : Writer = record { quoted = c.self.inside.quoted; place = c.self.inside.place; held = c.self.inside.held } in
    let fails = rw c.as_slice.ensures at c.in_err-quoted.ensures.err in OnErr-any c.from_residual.result (
    held_fails writer c.args.self c.self.view_is c.self.invariant _ _ (g.S.Spool.state c.piece.new.spool) fails
    )

pub returns-clause-err : goal.returns-clause-err
returns-clause-err g c =
    let writer : Writer = record { quoted = c.self.inside.quoted; place = c.self.inside.place; held = c.self.inside.held } in
    let writes = rw c.as_slice.ensures at c.in_ok-quoted.ensures.ok in
    OnErr-map c.end.result (λ x. end_fails writer c.args.self c.self.view_is c.self.invariant _ _ _ c.in_ok-quoted.quoted writes x) c.end.ensures.err
