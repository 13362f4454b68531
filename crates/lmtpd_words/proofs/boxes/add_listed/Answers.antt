use Rattle.std.proofs.Common.{◌==◌, ◌∙◌, ap, rules}
use Rattle.std.proofs.lemmas.Iterator.Consumers.{YieldsList-end}
use Rattle.std.proofs.lemmas.Iterator.Splits.{YieldsList-from_slice_split}
use Rattle.std.specs.Slice.Iter.{split_rest, split_done, split_callee}
use borrow.Author.Tests.{tests}
use Rattle.lmtpd_words.proofs.boxes.add_listed.Goals as goal

pub returns-clause-names : goal.returns-clause-names
returns-clause-names c =
    let all = YieldsList-end
    (YieldsList-from_slice_split _ (λ b. b == 10) c.args.text.now
    (ap split_rest c.into_iter-line-iterator.ensures.into_iter_gives ∙ c.split-line-items.ensures.rest)
    (ap split_done c.into_iter-line-iterator.ensures.into_iter_gives ∙ c.split-line-items.ensures.done)
    (ap split_callee c.into_iter-line-iterator.ensures.into_iter_gives ∙ c.split-line-items.ensures.closure)
    (λ x r q k. search (rules, tests)))
    c.loop-line.yielded _ c.loop-line.yielded_by _ _ c.in-None.is c.next.ensures.steps in
    rw all.0 at c.loop-line.invariant.names

pub returns-clause-quotas : goal.returns-clause-quotas
returns-clause-quotas c =
    let all = YieldsList-end
    (YieldsList-from_slice_split _ (λ b. b == 10) c.args.text.now
    (ap split_rest c.into_iter-line-iterator.ensures.into_iter_gives ∙ c.split-line-items.ensures.rest)
    (ap split_done c.into_iter-line-iterator.ensures.into_iter_gives ∙ c.split-line-items.ensures.done)
    (ap split_callee c.into_iter-line-iterator.ensures.into_iter_gives ∙ c.split-line-items.ensures.closure)
    (λ x r q k. search (rules, tests)))
    c.loop-line.yielded _ c.loop-line.yielded_by _ _ c.in-None.is c.next.ensures.steps in
    rw all.0 at c.loop-line.invariant.quotas
