use Rattle.std.proofs.Common.{arith}
use Rattle.std.proofs.lemmas.Grind.{common_steps}
use Rattle.mail_head.proofs.Blanks.{blanks_before, blanks_alone}
use Rattle.mail_head.proofs.message_id.after_blanks.Goals as goal

pub returns-in-Some : goal.returns-in-Some
returns-in-Some c =
    let e = blanks_before c.args.text.now c.in-Some.first c.in-Some.ensures.0 c.in-Some.ensures.1 in grind (arith, common_steps)

pub returns-in-None : goal.returns-in-None
returns-in-None c =
    let e = blanks_alone c.args.text.now c.in-None.ensures in grind (arith, common_steps)
