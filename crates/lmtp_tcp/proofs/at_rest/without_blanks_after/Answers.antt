use Rattle.std.proofs.Common.{arith}
use Rattle.std.proofs.lemmas.Grind.{common_steps}
use Rattle.lmtp_text.proofs.CommandCuts.{blanks_after, all_blanks}
use Rattle.lmtp_tcp.proofs.at_rest.without_blanks_after.Goals as goal

pub returns-in-Some : goal.returns-in-Some
returns-in-Some c =
    let e = blanks_after c.args.text.now c.in-Some.last c.in-Some.ensures.0 c.in-Some.ensures.1 in grind (arith, common_steps)

pub returns-in-None : goal.returns-in-None
returns-in-None c =
    let e = all_blanks c.args.text.now c.in-None.ensures in grind (arith, common_steps)
