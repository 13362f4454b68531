use Rattle.std.proofs.Common.{◌≡◌, true, false, ap, sym, ◌∙◌}
use Rattle.std.specs.Prelude.{is_some}
use Rattle.mail_world.specs.Site.{is_address, is_listed_domain}
use Rattle.lmtp_text.proofs.ListedNames.{domain_listed, has_at}
use Rattle.lmtp_text.proofs.FirstPlaces.{firsts-added, firsts-local}
use Rattle.lmtp_text.proofs.first_addresses.FirstAddresses.add_name.Goals as goal

pub add-requires : goal.add-requires
add-requires c =
    let address : is_address c.args.name.now ≡ true = sym (has_at c.args.name.now) ∙ sym c.cut_at.ensures.found ∙ ap is_some c.in-Some.is in
    ap is_listed_domain c.in-Some.ensures.after ∙ domain_listed c.args.name.now c.requires address

pub returns-in-Some : goal.returns-in-Some
returns-in-Some c =
    let address : is_address c.args.name.now ≡ true = sym (has_at c.args.name.now) ∙ sym c.cut_at.ensures.found ∙ ap is_some c.in-Some.is in
    firsts-added c.add.result c.args.name.now c.in-Some.domain.now c.args.place c.args.self.now c.add.new.self address c.in-Some.ensures.after c.add.ensures

pub returns-in-None : goal.returns-in-None
returns-in-None c = λ names size held.
    let local : is_address c.args.name.now ≡ false = sym (has_at c.args.name.now) ∙ sym c.cut_at.ensures.found ∙ ap is_some c.in-None.is in
    firsts-local names c.args.name.now c.args.self.now local held
