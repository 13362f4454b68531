use Rattle.std.proofs.Common.{◌==◌, ◌∙◌, ap, rules}
use Rattle.std.proofs.lemmas.Iterator.Consumers.{YieldsList-end}
use Rattle.std.proofs.lemmas.Iterator.Splits.{YieldsList-from_slice_split}
use Rattle.std.specs.Slice.Iter.{split_rest, split_done, split_callee}
use borrow.Author.Tests.{tests}
use Rattle.lmtp_text.proofs.ParameterLists.{more_shown, none_shown}
use Rattle.lmtp_text.proofs.parameters.tally_of.Goals as goal

pub loop-piece-preserved-then-not-is_empty : goal.loop-piece-preserved-then-not-is_empty
loop-piece-preserved-then-not-is_empty c =
    let h = c.with-tally.ensures _ c.loop-piece.invariant in
    let e = more_shown c.loop-piece.yielded c.in-Some.piece (search (rules, tests)) in
    rw e (rw c.read_parameter.ensures at h)

pub loop-piece-preserved : goal.loop-piece-preserved
loop-piece-preserved c =
    let e = none_shown c.loop-piece.yielded c.in-Some.piece (search (rules, tests)) in
    rw e c.loop-piece.invariant

pub returns : goal.returns
returns c =
    let all = YieldsList-end
    (YieldsList-from_slice_split _ (λ b. b == 32) c.args.text.now
    (ap split_rest c.into_iter-piece-iterator.ensures.into_iter_gives ∙ c.split-piece-items.ensures.rest)
    (ap split_done c.into_iter-piece-iterator.ensures.into_iter_gives ∙ c.split-piece-items.ensures.done)
    (ap split_callee c.into_iter-piece-iterator.ensures.into_iter_gives ∙ c.split-piece-items.ensures.closure)
    (λ x r q k. search (rules, tests)))
    c.loop-piece.yielded _ c.loop-piece.yielded_by _ _ c.in-None.is c.next.ensures.steps in
    rw all.0 at c.loop-piece.invariant
