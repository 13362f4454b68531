use Rattle.std.proofs.Common.{arith}
use Rattle.std.proofs.lemmas.Grind.{common_steps}
use Rattle.lmtp_text.proofs.CommandCuts.{spaces_before, all_spaces}
use Rattle.lmtp_text.proofs.cut.without_spaces_before.Goals as goal

pub returns-in-Some : goal.returns-in-Some
returns-in-Some c =
    let e = spaces_before c.args.text.now c.in-Some.first c.in-Some.ensures.0 c.in-Some.ensures.1 in grind (arith, common_steps)

pub returns-in-None : goal.returns-in-None
returns-in-None c =
    let e = all_spaces c.args.text.now c.in-None.ensures in grind (arith, common_steps)
