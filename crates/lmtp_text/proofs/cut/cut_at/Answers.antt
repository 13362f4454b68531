use Rattle.std.proofs.Common.{arith}
use Rattle.std.proofs.lemmas.Grind.{common_steps}
use Rattle.std.proofs.lemmas.Bool.Decides.{nat_tests}
use Rattle.bstr.specs.Find.{is_byte}
use Rattle.lmtp_text.proofs.CommandCuts.{first_at, first_nowhere, has_byte_first}
use Rattle.lmtp_text.proofs.cut.cut_at.Goals as goal

pub returns-in-Some-clause-before : goal.returns-in-Some-clause-before
returns-in-Some-clause-before c =
    let e = first_at (is_byte c.args.byte) c.args.text.now c.in-Some.at c.in-Some.ensures.0 c.in-Some.ensures.1 in grind (arith, common_steps)

pub returns-in-Some-clause-after : goal.returns-in-Some-clause-after
returns-in-Some-clause-after c =
    let e = first_at (is_byte c.args.byte) c.args.text.now c.in-Some.at c.in-Some.ensures.0 c.in-Some.ensures.1 in grind (arith, common_steps)

pub returns-in-Some-clause-found : goal.returns-in-Some-clause-found
returns-in-Some-clause-found c =
    let e = first_at (is_byte c.args.byte) c.args.text.now c.in-Some.at c.in-Some.ensures.0 c.in-Some.ensures.1 in
    let h = has_byte_first c.args.byte c.args.text.now in grind (arith, nat_tests)

pub returns-in-None-clause-found : goal.returns-in-None-clause-found
returns-in-None-clause-found c =
    let e = first_nowhere (is_byte c.args.byte) c.args.text.now c.in-None.ensures in
    let h = has_byte_first c.args.byte c.args.text.now in grind (arith, nat_tests)

pub returns-in-None-clause-none_before : goal.returns-in-None-clause-none_before
returns-in-None-clause-none_before c =
    let e = first_nowhere (is_byte c.args.byte) c.args.text.now c.in-None.ensures in grind (arith, common_steps)

pub returns-in-None-clause-none_after : goal.returns-in-None-clause-none_after
returns-in-None-clause-none_after c =
    let e = first_nowhere (is_byte c.args.byte) c.args.text.now c.in-None.ensures in grind (arith, common_steps)
