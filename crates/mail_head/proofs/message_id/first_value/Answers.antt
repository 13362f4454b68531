use Rattle.std.proofs.Common.{◌-◌, ◌+◌, ◌∙◌, ◌==◌, length, option_map, Some, sym, ap, arith}
use Rattle.mail_head.specs.MessageIds as ids
use Rattle.mail_head.proofs.Values.{none_here, some_here, none_yet}
use Rattle.mail_head.proofs.message_id.first_value.Goals as goal

pub returns-then-is_empty : goal.returns-then-is_empty
returns-then-is_empty c =
    let e = none_here c.loop-i.rest.now (length c.args.head.now - c.loop-i.i) (length c.args.head.now - (c.loop-i.i + 1))
    (let low = c.loop-i-test.true in omega (arith, low))
    (ap (λ t. length t == 0) (sym c.split_line.ensures.line) ∙ sym c.is_empty.ensures ∙ c.if-is_empty.true) in
    ap (λ v. option_map ids.kept_value v) (sym e ∙ c.loop-i.invariant)

pub returns-in-Some : goal.returns-in-Some
returns-in-Some c =
    let e = some_here c.loop-i.rest.now c.split_line.result.1.now c.in-Some.value.now (length c.args.head.now - c.loop-i.i)
    (length c.args.head.now - c.loop-i.i - 1)
    (let low = c.loop-i-test.true in omega (arith, low))
    (ap (λ t. length t == 0) (sym c.split_line.ensures.line) ∙ sym c.is_empty.ensures ∙ c.if-is_empty.false)
    (c.in-Some.ensures ∙ ap ids.begun_value c.split_line.ensures.line) c.split_line.ensures.rest in
    ap (λ t. Some t) c.kept_value.ensures ∙ ap (λ v. option_map ids.kept_value v) (sym e ∙ c.loop-i.invariant)

pub loop-i-preserved : goal.loop-i-preserved
loop-i-preserved c =
    none_yet c.loop-i.rest.now c.split_line.result.1.now (length c.args.head.now - c.loop-i.i) (length c.args.head.now - (c.loop-i.i + 1))
    (let low = c.loop-i-test.true in omega (arith, low))
    (ap (λ t. length t == 0) (sym c.split_line.ensures.line) ∙ sym c.is_empty.ensures ∙ c.if-is_empty.false)
    (c.in_default.ensures ∙ ap ids.begun_value c.split_line.ensures.line) c.split_line.ensures.rest
    ∙ c.loop-i.invariant
