use Rattle.std.proofs.Common.{◌≡◌, subst, None, [], ◌∷◌, codes}
use Rattle.mail_world.specs.Site.{Site, is_listed_name, listed_fault_of}
use Rattle.lmtp_text.specs.Sites.{IsListedFault, site_with}
use Rattle.lmtpd_setup.proofs.OneName.{listed_bad, listed_made}
use Rattle.lmtpd_setup.proofs.usable.is_listed_name.Goals.{in-Ok, in-Err-Box, in-Err}
use Rattle.lmtpd_setup.proofs.usable.is_listed_name.Goals as goal

pub returns : goal.returns
returns c =
    let name = c.args.name.now in
    let site = site_with (codes "h") [] (name ∷ []) in
    elim c.match-of_list.branch [
      | in-Ok w ↦ rw w.result-is (listed_made (is_listed_name name)
          (subst (λ (s : Site). listed_fault_of s ≡ None) w.in-Ok.ensures.made w.in-Ok.ensures.sound.0))
      | in-Err-Box w ↦ rw w.result-is (listed_bad (is_listed_name name)
          (subst (λ e. IsListedFault site e) w.in-Err-Box.field-0-is w.in-Err-Box.ensures.refused))
      | in-Err w ↦ rw w.result-is tt
    ]
