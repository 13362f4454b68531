use Rattle.lmtp_text.proofs.SiteRules.{box_name-bounded}
use Rattle.lmtp_text.specs.contracts.site.Site.{the_view}
use Rattle.lmtp_text.proofs.site.Site.box_name.Goals as goal

pub returns-clause-size : goal.returns-clause-size
returns-clause-size c =
    rw c.at.ensures.value (box_name-bounded (the_view c.self.inside) c.args.i c.self.invariant.0)
