use Rattle.std.proofs.Common.{◌≡◌, false, arith, get_or}
use Rattle.std.specs.Prelude.{not, ◌&&◌, ◌==◌}
use Rattle.std.proofs.lemmas.Bool.Decides.{nat_tests}
use Rattle.lmtp_text.proofs.WordSteps.{plain_beyond}
use Rattle.lmtp_text.proofs.names.write_unescaped.Goals as goal
use Rattle.lmtp_text.proofs.names.write_unescaped.Goals.{else-not-in_pair-via-then-not-in_pair+else-b-eq92, else-not-in_pair-via-else-not-in_pair}

pub returns-then-size-room-clause-text : goal.returns-then-size-room-clause-text
returns-then-size-room-clause-text c =
    let plain : (not c.loop-b.in_pair && (get_or c.args.text.now c.loop-b.b-index 0 == 92)) ≡ false =
    elim c.else-not-in_pair.branch [
      | else-not-in_pair-via-then-not-in_pair+else-b-eq92 w ↦ grind (arith, nat_tests)
      | else-not-in_pair-via-else-not-in_pair w ↦ grind (arith, nat_tests)
    ] in
    let beyond = plain_beyond c.args.text.now c.loop-b.room c.loop-b.b-index c.loop-b.size c.loop-b.in_pair (omega arith) (omega (arith, c.loop-b.invariant)) plain c.loop-b.invariant.0 in
    omega (arith, beyond, c.if-size-room.true, c.loop-b.invariant)
