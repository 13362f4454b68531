use Rattle.std.proofs.Common.{◌≡◌, take}
use Rattle.mail_world.specs.Marks.{plain_address}
use Rattle.mbox_record.proofs.head.plain_address.Given as goal

abbrev pub invariant-loop-i : goal.invariant-loop-i
invariant-loop-i l = take l.i l.out ≡ plain_address (take l.i l.sender)
