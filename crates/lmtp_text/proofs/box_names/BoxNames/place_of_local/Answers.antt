use Rattle.std.proofs.Common.{◌≡◌, true, false, ap, sym, ◌∙◌}
use Rattle.std.specs.List.{list_all}
use Rattle.mail_world.specs.Site.{is_address, is_listed_name}
use Rattle.mail_world.specs.Targets.{local_name}
use Rattle.lmtp_text.specs.Seen.{seen_target}
use Rattle.lmtp_text.proofs.AddressPlaces.{local_at, local_placed, local_too_long, local_with_at}
use Rattle.lmtp_text.proofs.box_names.BoxNames.place_of_local.Goals as goal

pub returns-then-contains-clause-value : goal.returns-then-contains-clause-value
returns-then-contains-clause-value c =
    let target = seen_target c.args.target.now in
    let has : is_address target.local ≡ true = sym c.contains.ensures.value ∙ c.if-contains.true in
    local_with_at c.args.self.now (local_name target) (local_at target ∙ has)

pub returns-in-Some-clause-value : goal.returns-in-Some-clause-value
returns-in-Some-clause-value c =
    let target = seen_target c.args.target.now in
    let lacks : is_address target.local ≡ false = sym c.contains.ensures.value ∙ c.if-contains.false in
    local_placed c.args.self.now (local_name target) _ c.place_of_text.result (local_at target ∙ lacks) c.in-Some.ensures.text.1 c.place_of_text.ensures.value

pub returns-in-None-clause-value : goal.returns-in-None-clause-value
returns-in-None-clause-value c =
    let target = seen_target c.args.target.now in
    let named : list_all is_listed_name c.args.self.now ≡ true = ap (list_all is_listed_name) (sym c.self.view_is) ∙ c.self.invariant in
    let lacks : is_address target.local ≡ false = sym c.contains.ensures.value ∙ c.if-contains.false in
    local_too_long c.args.self.now (local_name target) named (local_at target ∙ lacks) c.in-None.ensures.text
