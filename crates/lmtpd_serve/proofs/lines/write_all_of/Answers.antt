use Rattle.std.proofs.Common.{◌<◌, arith, length}
use Rattle.std.specs.Arc.{arc_value}
use Rattle.mbox_spool.proofs.Taken.{OnErr-any}
use Rattle.lmtpd_output.proofs.Listed.{pair_written, pair_broken}
use Rattle.lmtpd_serve.specs.Served.{trouble_told}
use Rattle.lmtpd_serve.proofs.TroubleLines.{told_at}
use Rattle.lmtpd_serve.proofs.lines.write_all_of.Goals as goal

pub returns-in_err-write_trouble-clause-err : goal.returns-in_err-write_trouble-clause-err
returns-in_err-write_trouble-clause-err g c =
    let served = c.args.served.now in
    let within : c.loop-number.number < length c.deref-site.result.now.boxes = omega (arith, c.loop-number-test.true, c.box_count-number-end.ensures.value) in
    OnErr-any c.from_residual.result (
    pair_broken (trouble_told c.args.trouble) (arc_value served.site) served.tallies.items c.loop-number.number c.box_name.result.now _ _ _ _ _
    (told_at served c.deref-site.result.now c.loop-number.number c.box_name.result.now c.index-tally.result.now c.deref-site.ensures within
    c.box_name.ensures.value c.index-tally.ensures)
    c.loop-number.invariant c.in_err-write_trouble.ensures.err)

pub loop-number-preserved : goal.loop-number-preserved
loop-number-preserved g c =
    let served = c.args.served.now in
    let within : c.loop-number.number < length c.deref-site.result.now.boxes = omega (arith, c.loop-number-test.true, c.box_count-number-end.ensures.value) in
    pair_written (trouble_told c.args.trouble) (arc_value served.site) served.tallies.items c.loop-number.number c.box_name.result.now _ _ _ _ _
    (told_at served c.deref-site.result.now c.loop-number.number c.box_name.result.now c.index-tally.result.now c.deref-site.ensures within
    c.box_name.ensures.value c.index-tally.ensures)
    c.loop-number.invariant c.in_ok-write_trouble.ensures.ok
