use Rattle.std.proofs.Common.{◌∙◌, ◌||◌, ap}
use Rattle.std.specs.List.{list_any}
use Rattle.lmtp_house.specs.Handed.{HandedBack}
use Rattle.lmtp_lane.specs.TcpVisits.{has_failed, was_stopped}
use Rattle.lmtpd_serve.proofs.run.served_by.Goals as goal

pub returns-clause-faulty : goal.returns-clause-faulty
returns-clause-faulty g c =
    c.has_failed.ensures ∙ ap (λ ts. list_any (λ t. t.faulty) ts) c.deref.ensures.value
    ∙ ap (λ (r : HandedBack _ _). list_any (λ t. t.faulty) r.tallies) c.report.view_is

pub returns-clause-failed : goal.returns-clause-failed
returns-clause-failed g c =
    ap (λ b. c.args.announced.is_unknown || b) (c.has_one_failed.ensures ∙ ap (λ vs. list_any (λ v. has_failed v.inner) vs) c.deref-2.ensures.value
    ∙ ap (λ (r : HandedBack _ _). list_any (λ v. has_failed v.inner) r.visits) c.report.view_is)

pub returns-clause-stopped : goal.returns-clause-stopped
returns-clause-stopped g c =
    c.is_one_stopped.ensures ∙ ap (λ vs. list_any (λ v. was_stopped v.inner) vs) c.deref-3.ensures.value
    ∙ ap (λ (r : HandedBack _ _). list_any (λ v. was_stopped v.inner) r.visits) c.report.view_is
