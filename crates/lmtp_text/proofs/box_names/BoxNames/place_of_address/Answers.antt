use Rattle.std.proofs.Common.{◌≡◌, ◌<◌, ◌++◌, ◌∷◌, true, Some, length, ap, sym, ◌∙◌}
use Rattle.std.specs.List.{list_all}
use Rattle.mail_world.specs.Site.{is_listed_name}
use Rattle.mail_world.specs.Targets.{local_name}
use Rattle.mail_world.specs.declared.limits.TheConstants.{BOX_NAME_LIMIT}
use Rattle.lmtp_text.specs.Seen.{seen_target}
use Rattle.lmtp_text.proofs.AddressPlaces.{address_placed, address_too_long}
use Rattle.lmtp_text.proofs.box_names.BoxNames.place_of_address.Goals as goal

pub returns-in-Some-write_address-clause-value : goal.returns-in-Some-write_address-clause-value
returns-in-Some-write_address-clause-value c =
    let target = seen_target c.args.target.now in
    let at : target.domain ≡ Some c.in-Some.domain.now = cc in
    address_placed c.args.self.now target.domain c.in-Some.domain.now (local_name target) _ c.place_of_text.result at c.in-Some-write_address.ensures.text.1
    c.place_of_text.ensures.value

pub returns-in-None-clause-value : goal.returns-in-None-clause-value
returns-in-None-clause-value c =
    let target = seen_target c.args.target.now in
    let named : list_all is_listed_name c.args.self.now ≡ true = ap (list_all is_listed_name) (sym c.self.view_is) ∙ c.self.invariant in
    let long : BOX_NAME_LIMIT < length (local_name target ++ 64 ∷ c.in-Some.domain.now) = c.in-None.ensures.text in
    let at : target.domain ≡ Some c.in-Some.domain.now = cc in
    address_too_long c.args.self.now target.domain c.in-Some.domain.now (local_name target) named at long
