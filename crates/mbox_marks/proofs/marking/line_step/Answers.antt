use Rattle.mbox_marks.proofs.Fields.{line_as_field}
use Rattle.mbox_marks.proofs.marking.line_step.Goals as goal

pub returns-in-Some-false : goal.returns-in-Some-false
returns-in-Some-false c =
    let none = rw c.in-Some-false.field-0-test at c.in-Some-false.ensures.some in
    line_as_field c.args.bytes.now c.field_step.result none c.field_step.ensures
