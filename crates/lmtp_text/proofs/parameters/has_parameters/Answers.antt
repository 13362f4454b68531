use Rattle.std.proofs.Common.{◌==◌, not, ◌∙◌, rules}
use Rattle.std.proofs.lemmas.Iterator.{YieldsList-from_slice}
use Rattle.std.proofs.lemmas.Iterator.Search.{any_from_yields_List}
use borrow.Author.Tests.{tests}
use Rattle.lmtp_text.proofs.ParameterLists.{any_not_space}
use Rattle.lmtp_text.proofs.parameters.has_parameters.Goals as goal

pub returns : goal.returns
returns c =
    any_from_yields_List (λ b. not (b == 32)) _ _ c.any.result c.any.ensures.ran (YieldsList-from_slice c.args.text.now cc) (λ x b q k. search (rules, tests))
    ∙ any_not_space c.args.text.now
