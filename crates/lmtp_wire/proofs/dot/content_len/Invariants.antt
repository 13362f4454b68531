use Rattle.std.proofs.Common.{◌≡◌, ◌≤◌, ◌-◌, length, take, true}
use Rattle.lmtp_wire.specs.DataState.{is_undotted}
use Rattle.lmtp_wire.proofs.dot.content_len.Given as goal

abbrev pub invariant-loop-n : goal.invariant-loop-n
invariant-loop-n l = record {
  within : l.seen ≤ length l.text;
  content : is_undotted l.state (take l.seen l.text) ≡ true;
}

abbrev pub decreases-loop-n : goal.decreases-loop-n
decreases-loop-n l = length l.text - l.seen
