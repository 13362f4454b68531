use Rattle.std.proofs.Common.{ℕ, List, subst}
use Rattle.std.proofs.lemmas.List.{take_rest}
use Rattle.mbox_spool.specs.declared.pending.Pending.TheVariants.{Start}
use Rattle.mbox_spool.specs.Steps.{IsWriterRun}
use Rattle.mbox_spool.proofs.Runs.{run_after_lf}
use Rattle.mbox_spool.proofs.pending.line_after_lf.Goals as goal

pub returns : goal.returns
returns c =
    let piece = c.args.piece.now in
    let run = c.in_ok-run.run' in
    let P : List ℕ → Type 0 = λ line. IsWriterRun Start line run.len run.taken in
    run_after_lf piece run.len run.taken c.requires.some c.if-piece-ne10.false (subst P (take_rest piece 1) c.in_ok-run.ensures)
