use Rattle.std.proofs.Common.{◌+◌, ◌==◌, ℕ, arith, drop, ap, sym, ◌∙◌}
use Rattle.std.specs.Int.{w64, trailing_zeros}
use Rattle.std.proofs.lemmas.Bool.{ne_eqb}
use Rattle.std.proofs.lemmas.List.{length-drop, drop-drop, get_or-drop}
use Rattle.mail_world.specs.Text.{cr}
use Rattle.mbox_spool.specs.Lines.{may_begin}
use Rattle.mbox_spool.proofs.Copies.{same_up_to, plain_up_to, up_to_cr, up_to_lf, end_is_plain, some_before, two_on}
use Rattle.mbox_spool.proofs.lines.next_lines.Goals as goal

pub returns-then-ends-eq0-clause-written : goal.returns-then-ends-eq0-clause-written
returns-then-ends-eq0-clause-written c =
    let size = length-drop c.args.at c.args.piece.now in
    same_up_to 64 (drop c.args.at c.args.piece.now) c.requires.plain (omega (arith, size, c.requires.more))
    (c.line_ends-ends.ensures.none c.if-ends-eq0.true)

pub returns-then-ends-eq0-clause-plain : goal.returns-then-ends-eq0-clause-plain
returns-then-ends-eq0-clause-plain c =
    let size = length-drop c.args.at c.args.piece.now in
    rw (← drop-drop 64 c.args.at c.args.piece.now)
    (plain_up_to 64 (drop c.args.at c.args.piece.now) c.requires.plain (omega (arith, size, c.requires.more))
    (c.line_ends-ends.ensures.none c.if-ends-eq0.true))

pub returns-then-may_begin_from_line-clause-written : goal.returns-then-may_begin_from_line-clause-written
returns-then-may_begin_from_line-clause-written c =
    let size = length-drop c.args.at c.args.piece.now in
    let end = c.line_ends-ends.ensures.first (omega (arith, c.if-ends-eq0.false)) in
    same_up_to _ (drop c.args.at c.args.piece.now) c.requires.plain
    (let within = end.within in omega (arith, size, c.requires.more, within)) end.none

pub returns-then-may_begin_from_line-clause-plain : goal.returns-then-may_begin_from_line-clause-plain
returns-then-may_begin_from_line-clause-plain c =
    let size = length-drop c.args.at c.args.piece.now in
    let end = c.line_ends-ends.ensures.first (omega (arith, c.if-ends-eq0.false)) in
    rw (← drop-drop (trailing_zeros w64 c.line_ends-ends.result) c.args.at c.args.piece.now)
    (plain_up_to _ (drop c.args.at c.args.piece.now) c.requires.plain
    (let within = end.within in omega (arith, size, c.requires.more, within)) end.none)

pub returns-then-may_begin_from_line-clause-some : goal.returns-then-may_begin_from_line-clause-some
returns-then-may_begin_from_line-clause-some c =
    let size = length-drop c.args.at c.args.piece.now in
    let end = c.line_ends-ends.ensures.first (omega (arith, c.if-ends-eq0.false)) in
    some_before _ (drop c.args.at c.args.piece.now) (omega (arith, size, c.requires.more)) end
    (ap may_begin (two_on c.args.piece.now c.args.at _) ∙ sym c.may_begin_from_line.ensures ∙ c.if-may_begin_from_line.true)

pub returns-then-piece-next-eq13-clause-written : goal.returns-then-piece-next-eq13-clause-written
returns-then-piece-next-eq13-clause-written c =
    let size = length-drop c.args.at c.args.piece.now in
    let end = c.line_ends-ends.ensures.first (omega (arith, c.if-ends-eq0.false)) in
    up_to_cr _ (drop c.args.at c.args.piece.now) c.requires.plain (omega (arith, size, c.requires.more)) end
    (get_or-drop c.args.at c.args.piece.now _ 0 ∙ c.if-piece-next-eq13.true)

pub returns-then-piece-next-eq13-clause-plain : goal.returns-then-piece-next-eq13-clause-plain
returns-then-piece-next-eq13-clause-plain c =
    let size = length-drop c.args.at c.args.piece.now in
    let end = c.line_ends-ends.ensures.first (omega (arith, c.if-ends-eq0.false)) in
    rw (← drop-drop (trailing_zeros w64 c.line_ends-ends.result + 1) c.args.at c.args.piece.now)
    (end_is_plain _ (drop c.args.at c.args.piece.now) (omega (arith, size, c.requires.more)) end
    (ap may_begin (two_on c.args.piece.now c.args.at _) ∙ sym c.may_begin_from_line.ensures ∙ c.if-may_begin_from_line.false))

pub returns-clause-written : goal.returns-clause-written
returns-clause-written c =
    let size = length-drop c.args.at c.args.piece.now in
    let end = c.line_ends-ends.ensures.first (omega (arith, c.if-ends-eq0.false)) in
    up_to_lf _ (drop c.args.at c.args.piece.now) c.requires.plain (omega (arith, size, c.requires.more)) end
    (ap (λ (b : ℕ). b == cr) (get_or-drop c.args.at c.args.piece.now _ 0) ∙ ne_eqb _ cr c.if-piece-next-eq13.false)

pub returns-clause-plain : goal.returns-clause-plain
returns-clause-plain c =
    let size = length-drop c.args.at c.args.piece.now in
    let end = c.line_ends-ends.ensures.first (omega (arith, c.if-ends-eq0.false)) in
    rw (← drop-drop (trailing_zeros w64 c.line_ends-ends.result + 1) c.args.at c.args.piece.now)
    (end_is_plain _ (drop c.args.at c.args.piece.now) (omega (arith, size, c.requires.more)) end
    (ap may_begin (two_on c.args.piece.now c.args.at _) ∙ sym c.may_begin_from_line.ensures ∙ c.if-may_begin_from_line.false))
