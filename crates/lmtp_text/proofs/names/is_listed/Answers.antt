use Rattle.std.proofs.Common.{◌∙◌, sym, rules, tests}
use Rattle.std.proofs.lemmas.Iterator.{YieldsList-from_slice}
use Rattle.std.proofs.lemmas.Iterator.Search.{any_from_yields_List}
use Rattle.mail_world.specs.Targets.{is_listed_as}
use Rattle.lmtp_text.proofs.TextLists.{list_any_owned}
use Rattle.lmtp_text.proofs.names.is_listed.Goals as goal

pub returns : goal.returns
returns c =
    any_from_yields_List (λ name. is_listed_as c.args.domain.now name.items) _ _ c.any.result c.any.ensures.ran (YieldsList-from_slice c.args.domains.now cc)
    (λ x b q k. search (rules, tests))
    ∙ sym (list_any_owned (is_listed_as c.args.domain.now) c.args.domains.now)
