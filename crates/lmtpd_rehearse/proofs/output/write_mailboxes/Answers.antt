use Rattle.std.proofs.Common.{◌<◌, length, arith}
use Rattle.mbox_spool.proofs.Taken.{OnErr-any}
use Rattle.lmtpd_rehearse.specs.Mailboxes.{bytes_of_all, mailbox_output}
use Rattle.lmtpd_rehearse.proofs.Listed.{mailbox_at}
use Rattle.lmtpd_output.proofs.Listed.{pair_written, pair_broken}
use Rattle.lmtpd_rehearse.proofs.output.write_mailboxes.Goals as goal

pub returns-in_err-write_mailbox-clause-err : goal.returns-in_err-write_mailbox-clause-err
returns-in_err-write_mailbox-clause-err g c =
    let within : c.loop-number.number < length c.args.site.now.boxes = omega (arith, c.loop-number-test.true, c.box_count-number-end.ensures.value) in
    let mailbox = mailbox_at c.args.site.now c.args.mailboxes.now c.loop-number.number c.box_name.result.now c.bytes.result.now c.index-mailboxes-number.result _
    within c.requires c.box_name.ensures.value c.index-mailboxes-number.is c.bytes.ensures in
    OnErr-any c.from_residual.result (
    pair_broken mailbox_output c.args.site.now (bytes_of_all c.args.mailboxes.now) c.loop-number.number c.box_name.result.now c.bytes.result.now _ _ _ _ mailbox
    c.loop-number.invariant c.in_err-write_mailbox.ensures.err)

pub loop-number-preserved : goal.loop-number-preserved
loop-number-preserved g c =
    let within : c.loop-number.number < length c.args.site.now.boxes = omega (arith, c.loop-number-test.true, c.box_count-number-end.ensures.value) in
    let mailbox = mailbox_at c.args.site.now c.args.mailboxes.now c.loop-number.number c.box_name.result.now c.bytes.result.now c.index-mailboxes-number.result _
    within c.requires c.box_name.ensures.value c.index-mailboxes-number.is c.bytes.ensures in
    pair_written mailbox_output c.args.site.now (bytes_of_all c.args.mailboxes.now) c.loop-number.number c.box_name.result.now c.bytes.result.now _ _ _ _ mailbox
    c.loop-number.invariant c.in_ok-write_mailbox.ensures.ok
