use Rattle.std.proofs.Common.{ℕ, List, subst}
use Rattle.std.proofs.lemmas.List.{take_rest}
use Rattle.mbox_marks.specs.Marked.{GoesOn}
use Rattle.mbox_marks.proofs.FieldEnds.{HasGone-on}
use Rattle.mbox_marks.proofs.marking.find_mark.Goals as goal

pub loop-at-preserved : goal.loop-at-preserved
loop-at-preserved c =
    let bytes = c.args.bytes.now in
    let P : List ℕ → Type 0 = λ back. GoesOn c.loop-at.place back c.in-On.taken c.in-On.next in
    HasGone-on c.args.place bytes c.loop-at.at c.in-On.taken c.loop-at.place c.in-On.next c.loop-at.invariant
    (subst P (take_rest bytes c.loop-at.at) c.in-On.ensures)
