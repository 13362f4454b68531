use Rattle.std.proofs.Common.{◌∙◌, ◌+◌, ◌<◌, length, length-drop, sym, ap, arith}
use Rattle.std.proofs.lemmas.List.{take_rest}
use Rattle.lmtp_wire.specs.DataState.{is_start}
use Rattle.lmtp_wire.proofs.Content.{content_to, content_past, content_all}
use Rattle.lmtp_wire.proofs.dot.content_len.Goals as goal

pub returns-then-is_start-clause-content : goal.returns-then-is_start-clause-content
returns-then-is_start-clause-content c =
    let before = rw take_rest at c.in-Some.ensures.0 in
    content_to c.args.state c.args.text.now c.loop-n.seen c.in-Some.n c.loop-n.invariant.content before.before

pub loop-n-preserved : goal.loop-n-preserved
loop-n-preserved c =
    let before = rw take_rest at c.in-Some.ensures.0 in
    let high = before.high in
    let within : c.loop-n.seen + c.in-Some.n < length c.args.text.now = omega (arith, length-drop c.loop-n.seen c.args.text.now) in
    let inside = sym (ap (λ p. is_start p) c.state_after.ensures) ∙ sym c.is_start.ensures ∙ c.if-is_start.false in
    record {
      within = omega arith;
      content = content_past c.args.state c.args.text.now c.loop-n.seen c.in-Some.n c.loop-n.invariant.content before.before within inside;
    }

pub returns-clause-content : goal.returns-clause-content
returns-clause-content c =
    content_all c.args.state c.args.text.now c.loop-n.seen c.loop-n.invariant.within c.loop-n.invariant.content (rw take_rest at c.in_default.ensures)
