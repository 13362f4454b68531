use Rattle.std.proofs.Common.{◌≡◌, Option, Some, ℕ, ap, sym, ◌∙◌}
use Rattle.mail_world.specs.Targets.{box_named, local_name, user_of}
use Rattle.lmtp_text.specs.Seen.{seen_target}
use Rattle.lmtp_text.proofs.Finds.{no_user}
use Rattle.lmtp_text.proofs.site.Site.user_named.Goals as goal

pub returns-in-Some-clause-value : goal.returns-in-Some-clause-value
returns-in-Some-clause-value c =
    let target = seen_target c.args.target.now in
    let delimited : c.args.self.now.recipient_delimiter ≡ Some c.in-Some.delimiter = sym (ap (λ s. s.recipient_delimiter) c.self.view_is) ∙ c.in-Some.is in
    c.named.ensures.value ∙ (λ i. box_named c.args.self.now (c.user_of.ensures.domain i) (c.user_of.ensures.user i))
    ∙ ap (λ (d : Option ℕ). box_named c.args.self.now target.domain (user_of d (local_name target))) (sym delimited)

pub returns-in-None-clause-value : goal.returns-in-None-clause-value
returns-in-None-clause-value c =
    no_user c.args.self.now (seen_target c.args.target.now) (sym (ap (λ s. s.recipient_delimiter) c.self.view_is) ∙ c.in-None.is) c.requires
