use Rattle.std.proofs.Common.{◌≡◌, [], false, rules}
use Rattle.mbox_letters.specs.Letters.{is_boundary}
use Rattle.mbox_letters.proofs.LineCuts.{empty_by}
use Rattle.mbox_letters.proofs.Bodies.{IsBodyUpTo-start, IsBodyUpTo-plain, IsBodyUpTo-quoted, IsBodyUpTo-end, IsBodyUpTo-none}
use Rattle.mbox_letters.proofs.reading.read_body.Goals as goal
use Rattle.mbox_letters.proofs.reading.read_body.Goals.{else-is_empty-via-then-is_empty+else-is_boundary, else-is_empty-via-else-is_empty}

pub loop-line-init : goal.loop-line-init
loop-line-init c = rw c.new-body.ensures.items (IsBodyUpTo-start c.args.text.now)

pub returns-then-is_boundary-clause-read : goal.returns-then-is_boundary-clause-read
returns-then-is_boundary-clause-read c =
    IsBodyUpTo-end c.args.text.now c.loop-line.body.items c.loop-line.run.now c.loop-line.rest.now c.in-Some.line.now c.in-Some.more.now
    c.before-then-is_boundary.result.now _
    c.loop-line.invariant c.in-Some.ensures.cut (empty_by c.in-Some.line.now c.is_empty.result c.is_empty.ensures c.if-is_empty.true) (search rules)
    c.before-then-is_boundary.ensures c.in_ok-extend_from_slice.ensures.items

pub loop-line-preserved-in_ok-extend_from_slice-2 :
    goal.loop-line-preserved-in_ok-extend_from_slice-2
loop-line-preserved-in_ok-extend_from_slice-2 c =
    let open' : c.in-Some.line.now ≡ [] → is_boundary c.in-Some.more.now ≡ false =
    λ e. elim c.else-is_empty.branch [ else-is_empty-via-then-is_empty+else-is_boundary w ↦ search rules | else-is_empty-via-else-is_empty w ↦ search rules ] in
    IsBodyUpTo-quoted c.args.text.now c.loop-line.body.items c.loop-line.run.now c.loop-line.rest.now c.in-Some.line.now c.in-Some.more.now
    c.before-then-is_quoted.result.now _
    c.loop-line.invariant c.in-Some.ensures.cut c.in-Some.ensures.plain open' (search rules) c.before-then-is_quoted.ensures
    c.in_ok-extend_from_slice-2.ensures.items

pub loop-line-preserved : goal.loop-line-preserved
loop-line-preserved c =
    let open' : c.in-Some.line.now ≡ [] → is_boundary c.in-Some.more.now ≡ false =
    λ e. elim c.else-is_empty.branch [ else-is_empty-via-then-is_empty+else-is_boundary w ↦ search rules | else-is_empty-via-else-is_empty w ↦ search rules ] in
    IsBodyUpTo-plain c.args.text.now c.loop-line.body.items c.loop-line.run.now c.loop-line.rest.now c.in-Some.line.now c.in-Some.more.now
    c.loop-line.invariant c.in-Some.ensures.cut c.in-Some.ensures.plain open' (search rules)

pub returns-clause-no_empty_line : goal.returns-clause-no_empty_line
returns-clause-no_empty_line c =
    λ e. IsBodyUpTo-none c.args.text.now c.loop-line.body.items c.loop-line.run.now c.loop-line.rest.now c.loop-line.invariant c.in_default.ensures.none
