use Rattle.std.proofs.Common.{arith, ap, ◌∙◌, get_or, ◌+◌, ◌-◌}
use Rattle.std.proofs.lemmas.List.{take_rest}
use Rattle.lmtp_wire.proofs.WiresFound.{found_at, seen_to, found_nowhere}
use Rattle.lmtp_wire.proofs.wire.place_of_crlf.Goals as goal
use Rattle.lmtp_wire.proofs.wire.place_of_crlf.Goals.{else-lf-gt0-via-then-lf-gt0+else-text-lf-eq13, else-lf-gt0-via-else-lf-gt0}

pub returns-then-text-lf-eq13-clause-place : goal.returns-then-text-lf-eq13-clause-place
returns-then-text-lf-eq13-clause-place c =
    found_at c.args.text.now c.loop-n.seen c.in-Some.n (c.loop-n.seen + c.in-Some.n - 1) c.loop-n.invariant (rw take_rest at c.in-Some.ensures.0)
    (rw take_rest at c.in-Some.ensures.1) (omega arith) c.if-text-lf-eq13.true

pub loop-n-preserved : goal.loop-n-preserved
loop-n-preserved c = seen_to c.args.text.now c.loop-n.seen c.in-Some.n c.loop-n.invariant (rw take_rest at c.in-Some.ensures.0) (λ k e is.
    elim c.else-lf-gt0.branch [
      | else-lf-gt0-via-then-lf-gt0+else-text-lf-eq13 w ↦ w.if-text-lf-eq13.false (ap (λ i. get_or c.args.text.now i 0) (omega (arith, e)) ∙ is)
      | else-lf-gt0-via-else-lf-gt0 w ↦ absurd (omega (arith, e, w.if-lf-gt0.false))
    ])

pub returns-clause-place : goal.returns-clause-place
returns-clause-place c = found_nowhere c.args.text.now c.loop-n.seen c.loop-n.invariant (rw take_rest at c.in_default.ensures)
