use Rattle.std.proofs.Common.{◌==◌, ◌≡◌, ◌+◌, ◌∙◌, ap, sym, rules, [], length, take, get_or, arith}
use Rattle.std.proofs.lemmas.Iterator.Consumers.{YieldsList-end, YieldsList-so_far, YieldsList-turn}
use Rattle.std.proofs.lemmas.Iterator.Splits.{YieldsList-from_slice_split}
use Rattle.std.proofs.lemmas.List.{get_or_default}
use Rattle.std.specs.Slice.Iter.{split_rest, split_done, split_callee}
use borrow.Author.Tests.{tests}
use Rattle.lmtp_text.specs.Sites.{texts}
use Rattle.lmtpd_words.specs.Boxes.{is_named, lines_of, listed_boxes, name_in, names_in}
use Rattle.lmtpd_words.proofs.boxes.line_of_name.Goals as goal

pub returns-then-names-number : goal.returns-then-names-number
returns-then-names-number c =
    let lines = lines_of c.args.text.now in
    let yielded = c.loop-line.yielded in
    let line = c.in-Some.line in
    let turn = YieldsList-turn
    (YieldsList-from_slice_split _ (λ b. b == 10) c.args.text.now
    (ap split_rest c.into_iter-line-iterator.ensures.into_iter_gives ∙ c.split-line-items.ensures.rest)
    (ap split_done c.into_iter-line-iterator.ensures.into_iter_gives ∙ c.split-line-items.ensures.done)
    (ap split_callee c.into_iter-line-iterator.ensures.into_iter_gives ∙ c.split-line-items.ensures.closure)
    (λ x r q k. search (rules, tests)))
    yielded _ c.loop-line.yielded_by _ _ line c.in-Some.is c.next.ensures.steps in
    let so_far : texts yielded ≡ take (length yielded) lines = YieldsList-so_far
    (YieldsList-from_slice_split _ (λ b. b == 10) c.args.text.now
    (ap split_rest c.into_iter-line-iterator.ensures.into_iter_gives ∙ c.split-line-items.ensures.rest)
    (ap split_done c.into_iter-line-iterator.ensures.into_iter_gives ∙ c.split-line-items.ensures.done)
    (ap split_callee c.into_iter-line-iterator.ensures.into_iter_gives ∙ c.split-line-items.ensures.closure)
    (λ x r q k. search (rules, tests)))
    yielded _ c.loop-line.yielded_by in
    let here : line.now ≡ get_or lines (length yielded) [] = turn.1 ∙ get_or_default lines (length yielded) line.now [] turn.0 in
    record {
      above = length yielded;
      counted = ap (λ n. n + 1) c.loop-line.invariant.0;
      within = turn.0;
      named = ap (λ l. is_named (name_in l)) (sym here) ∙ (sym c.lists_box.ensures ∙ c.if-lists_box.true);
      names_above = ap (λ l. length (names_in l)) (sym so_far) ∙ (sym c.loop-line.invariant.1 ∙ c.if-names-number.true);
    }

pub returns : goal.returns
returns c =
    let all = YieldsList-end
    (YieldsList-from_slice_split _ (λ b. b == 10) c.args.text.now
    (ap split_rest c.into_iter-line-iterator.ensures.into_iter_gives ∙ c.split-line-items.ensures.rest)
    (ap split_done c.into_iter-line-iterator.ensures.into_iter_gives ∙ c.split-line-items.ensures.done)
    (ap split_callee c.into_iter-line-iterator.ensures.into_iter_gives ∙ c.split-line-items.ensures.closure)
    (λ x r q k. search (rules, tests)))
    c.loop-line.yielded _ c.loop-line.yielded_by _ _ c.in-None.is c.next.ensures.steps in
    let whole : texts c.loop-line.yielded ≡ lines_of c.args.text.now = all.0 in
    let counted : c.loop-line.names ≡ length (listed_boxes c.args.text.now) =
    c.loop-line.invariant.1 ∙ ap (λ l. length (names_in l)) whole in
    omega (arith, counted, c.loop-line.invariant.2)
