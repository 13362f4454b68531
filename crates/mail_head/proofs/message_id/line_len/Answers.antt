use Rattle.std.proofs.Common.{sym, arith}
use Rattle.mail_head.proofs.Lines.{found_line, no_line}
use Rattle.mail_head.proofs.message_id.line_len.Goals as goal

pub returns-in-Some : goal.returns-in-Some
returns-in-Some c =
    let found = found_line c.args.text.now c.in-Some.line.now c.in-Some.ensures in
    let within = found.within in record { len = sym found.place; within = omega (arith, within) }

pub returns-in-None : goal.returns-in-None
returns-in-None c = record { len = sym (no_line c.args.text.now c.in-None.ensures); within = omega arith }
