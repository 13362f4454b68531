use Rattle.std.proofs.Common.{drop}
use Rattle.mail_world.specs.Marks.{was}
use Rattle.mail_world.proofs.Places.{begins_with-prefix}
use Rattle.mbox_marks.proofs.Fields.{goes_mark, goes_was, goes_begun, goes_other}
use Rattle.mbox_marks.proofs.marking.field_step.Goals as goal

pub returns-in-Mark : goal.returns-in-Mark
returns-in-Mark c = goes_mark c.args.bytes.now c.requires.some c.in-Mark.ensures

pub returns-in-Was : goal.returns-in-Was
returns-in-Was c = goes_was c.args.bytes.now (drop 6 c.args.bytes.now) (begins_with-prefix was c.args.bytes.now c.in-Was.ensures)

pub returns-in-Begun : goal.returns-in-Begun
returns-in-Begun c = goes_begun c.args.bytes.now c.in-Begun.ensures

pub returns-in-Other : goal.returns-in-Other
returns-in-Other c = goes_other c.args.bytes.now c.requires.some c.in-Other.ensures
