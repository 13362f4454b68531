use Rattle.std.proofs.Common.{◌<◌, length, subst}
use Rattle.mail_world.specs.Site.{Site}
use Rattle.lmtp_text.specs.contracts.site.Site.{the_view}
use Rattle.lmtp_text.proofs.SiteRules.{some_box}
use Rattle.lmtp_text.proofs.site.Site.postmaster_named.Goals as goal

pub returns-then-serves-clause-known : goal.returns-then-serves-clause-known
returns-then-serves-clause-known c =
    subst (λ (s : Site). 0 < length s.boxes) c.self.view_is (some_box (the_view c.self.inside) c.self.invariant.0)
