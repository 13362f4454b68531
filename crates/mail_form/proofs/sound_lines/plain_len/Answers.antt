use Rattle.std.proofs.Common.{arith}
use Rattle.mail_form.specs.Forms.{is_break}
use Rattle.mail_form.proofs.Blocks.{pairs_more}
use Rattle.mail_form.proofs.sound_lines.plain_len.Goals as goal

pub loop-len-preserved : goal.loop-len-preserved
loop-len-preserved c = (
  omega (arith, c.loop-len-test.true),
  pairs_more is_break c.loop-len.len 64 c.args.text.now (omega (arith, c.loop-len-test.true)) c.loop-len.invariant.1
      (c.has_break.ensures c.if-has_break.false),
)
