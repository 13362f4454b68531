use Rattle.std.proofs.Common.{◌≡◌, ◌-◌, length}
use Rattle.mail_head.specs.MessageIds as ids
use Rattle.mail_head.proofs.message_id.first_value.Given as goal

abbrev pub invariant-loop-i : goal.invariant-loop-i
invariant-loop-i l =
    ids.first_value (ids.lines_within (length l.head - l.i) l.rest) ≡ ids.first_value (ids.lines_of l.head)
