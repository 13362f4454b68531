use Rattle.std.proofs.Common.{◌<◌, length, arith}
use Rattle.mbox_spool.proofs.Taken.{OnErr-any}
use Rattle.lmtpd_serve.specs.Served.{count_told}
use Rattle.lmtpd_output.proofs.Listed.{pair_at, pair_written, pair_broken}
use Rattle.lmtpd_serve.proofs.lines.tell_counts.Goals as goal

pub returns-in_err-tell_count-clause-err : goal.returns-in_err-tell_count-clause-err
returns-in_err-tell_count-clause-err g c =
    let within : c.loop-number.number < length c.args.site.now.boxes = omega (arith, c.loop-number-test.true, c.box_count-number-end.ensures.value) in
    OnErr-any c.from_residual.result (
    pair_broken (count_told c.args.are_few) c.args.site.now c.args.tallies.now c.loop-number.number c.box_name.result.now _ _ _ _ _
    (pair_at c.args.site.now c.args.tallies.now c.loop-number.number c.box_name.result.now _ within c.requires c.box_name.ensures.value) c.loop-number.invariant
    c.in_err-tell_count.ensures.err)

pub loop-number-preserved : goal.loop-number-preserved
loop-number-preserved g c =
    let within : c.loop-number.number < length c.args.site.now.boxes = omega (arith, c.loop-number-test.true, c.box_count-number-end.ensures.value) in
    pair_written (count_told c.args.are_few) c.args.site.now c.args.tallies.now c.loop-number.number c.box_name.result.now _ _ _ _ _
    (pair_at c.args.site.now c.args.tallies.now c.loop-number.number c.box_name.result.now _ within c.requires c.box_name.ensures.value) c.loop-number.invariant
    c.in_ok-tell_count.ensures.ok
