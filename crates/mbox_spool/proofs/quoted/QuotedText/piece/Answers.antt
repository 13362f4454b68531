use Rattle.std.proofs.Common.{arith, take}
use Rattle.mbox_spool.specs.declared.pending.Pending.TheVariants.{Inside}
use Rattle.mbox_spool.specs.Steps.{step_text}
use Rattle.mbox_spool.proofs.Pieces.{TakesPiece-more, TakesPiece-still, FailsPiece-more}
use Rattle.mbox_spool.proofs.Taken.{OnErr-any}
use Rattle.mbox_spool.proofs.quoted.QuotedText.piece.Goals as goal

pub returns-in_err-append_all-clause-err : goal.returns-in_err-append_all-clause-err
returns-in_err-append_all-clause-err g c =
    let rest = c.loop-rest.rest.now in
    let run = c.in-Some.run' in OnErr-any c.from_residual.result (
    FailsPiece-more _ _ _ c.args.self c.loop-rest.pending Inside c.args.piece.now rest (take run.len rest) run.taken
    (TakesPiece-still _ _ _ _ _ _ _
    (c.append_lines-taken.ensures.none (omega (arith, c.if-taken-gt0.false))) c.loop-rest.invariant) c.in-Some.ensures.goes c.in_err-append_all.ensures.err
    )

pub loop-rest-preserved-in-Some : goal.loop-rest-preserved-in-Some
loop-rest-preserved-in-Some g c =
    let rest = c.loop-rest.rest.now in
    let run = c.in-Some.run' in
    TakesPiece-more _ _ _ c.args.self c.loop-rest.pending Inside c.args.piece.now rest (take run.len rest) run.taken
    (TakesPiece-still _ _ _ _ _ _ _
    (c.append_lines-taken.ensures.none (omega (arith, c.if-taken-gt0.false))) c.loop-rest.invariant) c.in-Some.ensures.goes tt c.in_ok-append_all.ensures.ok

pub returns-in_err-write_step-clause-err : goal.returns-in_err-write_step-clause-err
returns-in_err-write_step-clause-err g c =
    let rest = c.loop-rest.rest.now in
    let step = c.long_step-step.result in OnErr-any c.from_residual-in_err-write_step.result (
    FailsPiece-more _ _ _ c.args.self c.loop-rest.pending step.next c.args.piece.now rest (step_text step rest) step.taken
    (TakesPiece-still _ _ _ _ _ _ _
    (c.append_lines-taken.ensures.none (omega (arith, c.if-taken-gt0.false))) c.loop-rest.invariant) c.long_step-step.ensures.goes c.in_err-write_step.ensures.err
    )

pub loop-rest-preserved : goal.loop-rest-preserved
loop-rest-preserved g c =
    let rest = c.loop-rest.rest.now in
    let step = c.long_step-step.result in
    TakesPiece-more _ _ _ c.args.self c.loop-rest.pending step.next c.args.piece.now rest (step_text step rest) step.taken
    (TakesPiece-still _ _ _ _ _ _ _
    (c.append_lines-taken.ensures.none (omega (arith, c.if-taken-gt0.false))) c.loop-rest.invariant) c.long_step-step.ensures.goes c.long_step-step.ensures.next c.in_ok-write_step.ensures.ok
