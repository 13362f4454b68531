use Rattle.std.proofs.Common.{arith}
use Rattle.mbox_marks.proofs.Fields.{name_begun}
use Rattle.mbox_marks.proofs.marking.has_name.Goals as goal

pub returns : goal.returns
returns c =
    name_begun c.args.name.now c.args.bytes.now c.loop-i.i c.loop-i.invariant (omega (arith, c.loop-i-test.false)) c.requires.few (omega arith)
