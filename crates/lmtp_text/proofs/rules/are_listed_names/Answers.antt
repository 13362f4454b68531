use Rattle.std.proofs.Common.{◌∙◌, sym, rules, tests}
use Rattle.std.proofs.lemmas.Iterator.{YieldsList-from_slice}
use Rattle.std.proofs.lemmas.Iterator.Search.{all_from_yields_List}
use Rattle.mail_world.specs.Site.{is_listed_name}
use Rattle.lmtp_text.proofs.TextLists.{list_all_texts}
use Rattle.lmtp_text.proofs.rules.are_listed_names.Goals as goal

pub returns : goal.returns
returns c =
    all_from_yields_List (λ name. is_listed_name name.now) _ _ c.all.result c.all.ensures.ran (YieldsList-from_slice c.args.names.now cc)
    (λ x b q k. search (rules, tests))
    ∙ sym (list_all_texts is_listed_name c.args.names.now)
