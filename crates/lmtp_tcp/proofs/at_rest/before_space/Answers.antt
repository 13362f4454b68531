use Rattle.std.proofs.Common.{arith}
use Rattle.std.proofs.lemmas.Grind.{common_steps}
use Rattle.bstr.specs.Find.{is_byte}
use Rattle.lmtp_text.proofs.CommandCuts.{first_at, first_nowhere}
use Rattle.lmtp_tcp.proofs.at_rest.before_space.Goals as goal

pub returns-in-Some : goal.returns-in-Some
returns-in-Some c =
    let e = first_at (is_byte 32) c.args.text.now c.in-Some.at c.in-Some.ensures.0 c.in-Some.ensures.1 in grind (arith, common_steps)

pub returns-in-None : goal.returns-in-None
returns-in-None c =
    let e = first_nowhere (is_byte 32) c.args.text.now c.in-None.ensures in grind (arith, common_steps)
