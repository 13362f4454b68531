use Rattle.std.proofs.Common.{◌==◌, ◌∙◌, sym, rules}
use Rattle.std.proofs.lemmas.Iterator.Consumers.{YieldsList-at, YieldsList-from_filter, count_from_yields_List}
use Rattle.std.proofs.lemmas.Iterator.Splits.{YieldsList-from_slice_split}
use borrow.Author.Tests.{tests}
use Rattle.lmtpd_words.specs.Boxes.{is_named, lines_of, name_in}
use Rattle.lmtpd_words.proofs.LineNames.{count_named}
use Rattle.lmtpd_words.proofs.boxes.count_names.Goals as goal

pub returns : goal.returns
returns c =
    count_from_yields_List _ c.count.result c.count.ensures.ran
    (YieldsList-from_filter _ (λ line. is_named (name_in line))
    (YieldsList-at c.filter.ensures.source
    (YieldsList-from_slice_split _ (λ b. b == 10) c.args.text.now c.split.ensures.rest c.split.ensures.done c.split.ensures.closure
    (λ x r q k. search (rules, tests))))
    c.filter.ensures.closure (λ x r q k. search (rules, tests)))
    ∙ sym (count_named (lines_of c.args.text.now))
