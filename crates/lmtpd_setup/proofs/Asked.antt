-- A site that isn't asked for more stays as it is.
use Rattle.std.proofs.Common.{◌≡◌, Bool, false, ap, sym, ◌∙◌}
use Rattle.mail_world.specs.Site.{Site}

pub same_utf8 : (site : Site) (asked : Bool) → site.utf8 ≡ false → asked ≡ false → site ≡ record site { utf8 = asked }
same_utf8 site asked e f = let g : site.utf8 ≡ asked = e ∙ sym f in ap (λ b. record site { utf8 = b }) g

pub same_marks : (site : Site) (asked : Bool) → site.renames_marks ≡ false → asked ≡ false → site ≡ record site { renames_marks = asked }
same_marks site asked e f = let g : site.renames_marks ≡ asked = e ∙ sym f in ap (λ b. record site { renames_marks = b }) g

pub same_refusals : (site : Site) (asked : Bool) → site.refuses_malformed ≡ false → asked ≡ false → site ≡ record site { refuses_malformed = asked }
same_refusals site asked e f = let g : site.refuses_malformed ≡ asked = e ∙ sym f in ap (λ b. record site { refuses_malformed = b }) g

pub same_quotas : (site : Site) (asked : Bool) → site.rejects_over_quota ≡ false → asked ≡ false → site ≡ record site { rejects_over_quota = asked }
same_quotas site asked e f = let g : site.rejects_over_quota ≡ asked = e ∙ sym f in ap (λ b. record site { rejects_over_quota = b }) g
