use Rattle.std.proofs.Common.{arith, ◌<◌, length}
use Rattle.lmtp_talk.proofs.Entered.{none_told, one_more_told, all_told}
use Rattle.lmtp_talk.proofs.telling.tell_answers.Goals as goal

pub loop-i-init : goal.loop-i-init
loop-i-init g c = none_told _ _ _

pub loop-i-preserved : goal.loop-i-preserved
loop-i-preserved g c =
    let within : c.loop-i.i < length c.args.session.now.answers = omega (arith, c.requires, c.loop-i-test.true) in
    one_more_told _ _ _ _ _ c.args.session.now.answers c.loop-i.i c.reply_at.result within c.reply_at.ensures c.loop-i.invariant c.tell.ensures

pub returns : goal.returns
returns g c = all_told _ _ _ _ c.args.session.now.answers c.loop-i.i (omega (arith, c.requires, c.loop-i.auto.i-end, c.loop-i-test.false)) c.loop-i.invariant
