use Rattle.std.proofs.Common.{length, ◌-◌}
use Rattle.lmtp_wire.proofs.WiresFound.{IsSeen}
use Rattle.lmtp_wire.proofs.wire.place_of_crlf.Given as goal

abbrev pub invariant-loop-n : goal.invariant-loop-n
invariant-loop-n l = IsSeen l.text l.seen

abbrev pub decreases-loop-n : goal.decreases-loop-n
decreases-loop-n l = length l.text - l.seen
