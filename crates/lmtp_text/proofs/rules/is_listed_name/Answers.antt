use Rattle.std.proofs.Common.{◌≡◌, true, false, ap, sym, ◌∙◌}
use Rattle.std.specs.Prelude.{is_some}
use Rattle.mail_world.specs.Site.{is_address, local_of, is_listed_local, is_listed_domain}
use Rattle.lmtp_text.proofs.ListedNames.{has_at, address_rule, local_rule}
use Rattle.lmtp_text.proofs.rules.is_listed_name.Goals as goal

pub returns-then-is_listed_local : goal.returns-then-is_listed_local
returns-then-is_listed_local c =
    let name = c.args.text.now in
    let address : is_address name ≡ true = sym (has_at name) ∙ sym c.cut_at.ensures.found ∙ ap is_some c.in-Some.is in
    let local : is_listed_local (local_of name) ≡ true = ap is_listed_local (sym c.in-Some.ensures.before) ∙ sym c.is_listed_local.ensures ∙ c.if-is_listed_local.true in
    c.is_listed_domain.ensures ∙ ap is_listed_domain c.in-Some.ensures.after ∙ address_rule name address local

pub returns-in-None : goal.returns-in-None
returns-in-None c =
    let name = c.args.text.now in
    let local : is_address name ≡ false = sym (has_at name) ∙ sym c.cut_at.ensures.found ∙ ap is_some c.in-None.is in
    c.is_listed_local-in-None.ensures ∙ local_rule name local
