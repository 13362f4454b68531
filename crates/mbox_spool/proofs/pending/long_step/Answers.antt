use Rattle.std.proofs.Common.{ℕ, List, subst}
use Rattle.std.proofs.lemmas.List.{take_rest}
use Rattle.mbox_spool.specs.Steps.{IsWriterStep}
use Rattle.mbox_spool.proofs.Steps.{IsWriterStep-both}
use Rattle.mbox_spool.proofs.pending.long_step.Goals as goal

pub loop-more-preserved : goal.loop-more-preserved
loop-more-preserved c =
    let step = c.loop-more.step in
    let more = c.short_step-more.result in
    let plain = c.is_unchanged.ensures c.loop-more-test.true in
    let P : List ℕ → Type 0 = λ back. IsWriterStep step.next back more in
    IsWriterStep-both c.args.pending c.args.piece.now step more plain.0 plain.1 c.loop-more.invariant
    (subst P (take_rest c.args.piece.now step.taken) c.short_step-more.ensures)
