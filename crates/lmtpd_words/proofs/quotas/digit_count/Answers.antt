use Rattle.std.proofs.Common.{not, rules}
use Rattle.std.specs.Char.{is_ascii_digit}
use Rattle.std.proofs.lemmas.Iterator.{YieldsList-from_slice}
use Rattle.std.proofs.lemmas.Iterator.Search.{position_from_yields_List}
use borrow.Author.Tests.{tests}
use Rattle.lmtp_text.proofs.PathPrefixes.{prefix_is}
use Rattle.lmtpd_words.proofs.quotas.digit_count.Goals as goal

pub returns-clause-value : goal.returns-clause-value
returns-clause-value c =
    let e = position_from_yields_List (λ b. not (is_ascii_digit b)) _ _ c.position.result c.position.ensures.ran (YieldsList-from_slice c.args.word.now cc)
    (λ x b q k. search (rules, tests)) in
    prefix_is is_ascii_digit c.args.word.now c.position.result c.unwrap_or.result e c.unwrap_or.ensures
