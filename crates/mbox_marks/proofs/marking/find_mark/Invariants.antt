use Rattle.std.proofs.Common.{◌+◌, ◌-◌, ◌*◌, length}
use Rattle.mbox_marks.specs.Marked.{place_weight}
use Rattle.mbox_marks.proofs.FieldEnds.{HasGone}
use Rattle.mbox_marks.proofs.marking.find_mark.Given as goal

abbrev pub invariant-loop-at : goal.invariant-loop-at
invariant-loop-at l = HasGone l.fn.place l.bytes l.at l.place

abbrev pub decreases-loop-at : goal.decreases-loop-at
decreases-loop-at l = 2 * (length l.bytes - l.at) + place_weight l.place
