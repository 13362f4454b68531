use Rattle.mbox_marks.proofs.FieldEnds.{inside_found, inside_on}
use Rattle.mbox_marks.proofs.marking.inside_step.Goals as goal

pub returns-in-Some : goal.returns-in-Some
returns-in-Some c =
    inside_found c.args.bytes.now c.in-Some.at c.in-Some.ensures.0 c.in-Some.ensures.1 c.place_after.result c.place_after.ensures

pub returns-in-None : goal.returns-in-None
returns-in-None c = inside_on c.args.bytes.now c.requires.some c.in-None.ensures
