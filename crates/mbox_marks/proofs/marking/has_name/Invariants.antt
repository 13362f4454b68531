use Rattle.mbox_marks.proofs.Fields.{IsMatched}
use Rattle.mbox_marks.proofs.marking.has_name.Given as goal

abbrev pub invariant-loop-i : goal.invariant-loop-i
invariant-loop-i l = IsMatched l.name l.bytes l.i
