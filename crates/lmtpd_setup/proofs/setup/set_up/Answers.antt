use Rattle.std.proofs.Common.{◌∙◌, ap, length, map, sym}
use Rattle.lmtpd_setup.specs.Mailboxes.{held_at}
use Rattle.lmtpd_setup.specs.Setup.{access_asked}
use Rattle.lmtpd_setup.proofs.setup.set_up.Goals as goal

pub returns-clause-site : goal.returns-clause-site
returns-clause-site g c = c.in_ok-site.ensures.0

pub returns-clause-sound : goal.returns-clause-sound
returns-clause-sound g c = c.in_ok-site.ensures.1

pub returns-clause-count : goal.returns-clause-count
returns-clause-count g c = sym c.in_ok-spools.spools.ok.0 ∙ c.in_ok-spools.ensures.count ∙ ap length c.deref-boxes.ensures.value

pub returns-clause-mailboxes : goal.returns-clause-mailboxes
returns-clause-mailboxes g c =
    c.in_ok-spools.ensures.held ∙ ap (λ a. map (held_at a) c.deref-boxes.result.now) c.access_asked-access.ensures
    ∙ ap (λ names. map (held_at (access_asked c.args.words.now)) names) c.deref-boxes.ensures.value

pub returns-clause-level : goal.returns-clause-level
returns-clause-level g c = c.server_log-log.ensures ∙ c.told_level.ensures

pub returns-clause-ends : goal.returns-clause-ends
returns-clause-ends g c = c.in_ok-shared_curfew.ensures.ends
