use Rattle.std.proofs.Common.{◌-◌}
use Rattle.mail_head.specs.Texts.{text_of}
use Rattle.mail_head.proofs.GoingOn.{GoesOn}
use Rattle.mail_head.proofs.message_id.go_on.Given as goal

abbrev pub invariant-loop : goal.invariant-loop
invariant-loop l = GoesOn (text_of l.initial.id) (text_of l.id) l.fn.rest l.rest l.fn.lines (l.fn.lines - l.counter)
