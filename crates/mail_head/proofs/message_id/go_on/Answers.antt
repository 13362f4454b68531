use Rattle.std.proofs.Common.{◌≡◌, ℕ, List, ◌-◌, ◌+◌, ◌++◌, ◌∙◌, subst, sym, ap, take, drop, arith}
use Rattle.std.proofs.lemmas.List.{take_rest}
use Rattle.mail_head.specs.Texts.{text_of}
use Rattle.mail_head.specs.MessageIds as ids
use Rattle.mail_head.proofs.GoingOn.{goes_first, goes_further, ends_before, ends_after}
use Rattle.mail_head.proofs.message_id.go_on.Goals as goal

pub loop-init : goal.loop-init
loop-init c = goes_first (text_of c.args.id.now) c.args.rest.now c.args.lines _ (omega arith)

pub returns-then-not-begins_blank : goal.returns-then-not-begins_blank
returns-then-not-begins_blank c =
    ends_before (text_of c.args.id.now) (text_of c.loop.id) c.args.rest.now c.loop.rest.now c.args.lines
    (c.args.lines - c.loop.counter) (c.args.lines - (c.loop.counter + 1)) c.loop.invariant
    (let low = c.loop-test.true in omega (arith, low))
    (ap ids.begins_blank (sym c.split_line.ensures.line) ∙ sym c.begins_blank.ensures ∙ c.if-not-begins_blank.true)

pub loop-preserved : goal.loop-preserved
loop-preserved c =
    let P : List ℕ → Type 0 = λ more. (value : List ℕ) → text_of c.loop.id ≡ take 250 (ids.after_blanks value)
    → text_of c.add_more.new.id ≡ take 250 (ids.after_blanks (value ++ more)) in
    goes_further (text_of c.args.id.now) (text_of c.loop.id) (text_of c.add_more.new.id) c.args.rest.now c.loop.rest.now
    (drop 1 c.split_line.result.0.now) c.split_line.result.1.now c.args.lines
    (c.args.lines - c.loop.counter) (c.args.lines - (c.loop.counter + 1)) c.loop.invariant
    (let low = c.loop-test.true in omega (arith, low))
    (ap ids.begins_blank (sym c.split_line.ensures.line) ∙ sym c.begins_blank.ensures ∙ c.if-not-begins_blank.false)
    (ap (λ t. drop 1 t) c.split_line.ensures.line) c.split_line.ensures.rest
    (subst P (take_rest c.split_line.result.0.now 1) c.add_more.ensures)

pub returns : goal.returns
returns c =
    ends_after (text_of c.args.id.now) (text_of c.loop.id) c.args.rest.now c.loop.rest.now c.args.lines
    (c.args.lines - c.loop.counter) c.loop.invariant (let high = c.loop-test.false in omega (arith, high))
