use Rattle.std.proofs.Common.{ap, sym, ◌∙◌, ℕ, List}
use Rattle.mail_world.specs.Targets.{local_name, place_of_address}
use Rattle.lmtp_text.specs.Seen.{seen_target}
use Rattle.lmtp_text.proofs.Finds.{named_by_address}
use Rattle.lmtp_text.proofs.site.Site.named.Goals as goal

pub returns-in-Some-clause-value : goal.returns-in-Some-clause-value
returns-in-Some-clause-value c =
    let t = seen_target c.args.target.now in
    named_by_address c.args.self.now t.domain (local_name t) c.in-Some.place
    (ap (λ (l : List (List ℕ)). place_of_address l t.domain (local_name t)) (sym (ap (λ s. s.boxes) c.self.view_is)) ∙ sym c.place_of_address.ensures.value ∙ c.in-Some.is)
