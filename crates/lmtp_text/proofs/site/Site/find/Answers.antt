use Rattle.std.proofs.Common.{sym, ◌∙◌}
use Rattle.lmtp_text.specs.Seen.{seen_target}
use Rattle.lmtp_text.proofs.Finds.{box_of-named, box_of-user}
use Rattle.lmtp_text.proofs.site.Site.find.Goals as goal

pub returns-in-Some-clause-value : goal.returns-in-Some-clause-value
returns-in-Some-clause-value c = box_of-named c.args.self.now (seen_target c.args.target.now) c.in-Some.n (sym c.named.ensures.value ∙ c.in-Some.is)

pub returns-in-None-clause-value : goal.returns-in-None-clause-value
returns-in-None-clause-value c =
    box_of-user c.args.self.now (seen_target c.args.target.now) c.user_named.result (sym c.named.ensures.value ∙ c.in-None.is) c.user_named.ensures.value
