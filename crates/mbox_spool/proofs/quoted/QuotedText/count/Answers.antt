use Rattle.std.proofs.Common.{take, arith}
use Rattle.std.proofs.lemmas.List.{length-take}
use Rattle.mbox_spool.specs.declared.pending.Pending.TheVariants.{Inside}
use Rattle.mbox_spool.specs.Steps.{step_text}
use Rattle.mbox_spool.proofs.Counts.{piece_begins, piece_more, step_size}
use Rattle.mbox_spool.proofs.quoted.QuotedText.count.Goals as goal

pub loop-rest-init : goal.loop-rest-init
loop-rest-init c = piece_begins c.args.self c.self.inside.pending c.args.piece.now c.self.view_is c.self.invariant

pub loop-rest-preserved-in-Some : goal.loop-rest-preserved-in-Some
loop-rest-preserved-in-Some c =
    let rest = c.loop-rest.rest.now in
    let lines = c.in-Some.lines in
    let known = c.in-Some.ensures.written in
    let is = known.is in
    piece_more c.args.self c.loop-rest.pending Inside c.args.piece.now rest known.text lines.taken c.loop-rest.count lines.len
    c.saturating_add-count.result c.loop-rest.invariant known.goes tt (omega (arith, is)) c.saturating_add-count.ensures

pub loop-rest-preserved-in-Some-plain_line : goal.loop-rest-preserved-in-Some-plain_line
loop-rest-preserved-in-Some-plain_line c =
    let rest = c.loop-rest.rest.now in
    let run = c.in-Some-plain_line.run' in
    let sum = c.saturating_add-count-in-Some-plain_line in
    piece_more c.args.self c.loop-rest.pending Inside c.args.piece.now rest (take run.len rest) run.taken c.loop-rest.count run.len
    sum.result c.loop-rest.invariant c.in-Some-plain_line.ensures.goes tt
    (omega (arith, length-take run.len rest, c.in-Some-plain_line.ensures.within)) sum.ensures

pub loop-rest-preserved : goal.loop-rest-preserved
loop-rest-preserved c =
    let rest = c.loop-rest.rest.now in
    let step = c.long_step-step.result in
    let sum = c.saturating_add-count-in_default-plain_line in
    piece_more c.args.self c.loop-rest.pending step.next c.args.piece.now rest (step_text step rest) step.taken c.loop-rest.count c.size.result
    sum.result c.loop-rest.invariant c.long_step-step.ensures.goes c.long_step-step.ensures.next
    (step_size step.len c.size.result rest step.extra.now c.long_step-step.ensures.len c.size.ensures) sum.ensures
