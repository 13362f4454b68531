use Rattle.std.proofs.Common.{◌≡◌, ◌∙◌, length, subst, sym, List, Option, ℕ}
use Rattle.std.specs.Arc.{arc_value}
use Rattle.mail_world.specs.Site.{Site}
use Rattle.lmtpd_words.specs.Words.{named_site, quotas_for}
use Rattle.lmtpd_rehearse.specs.Rehearsal.{IsBlockCount, IsRehearsed}
use Rattle.lmtpd.specs.Program.{IsNotRehearsed, streams_of}
use Rattle.lmtpd.proofs.Unrun.{as_many_quotas, block_count, good_where_it_ran, not_rehearsed}
use Rattle.lmtpd.proofs.rehearse.rehearse_asked.Goals as goal

pub returns-in-Err : goal.returns-in-Err
returns-in-Err g c =
    let words = c.args.words.now in
    let site : arc_value c.in_ok-site.site ≡ named_site words.site = c.in_ok-site.ensures.ok ∙ c.in_ok-site_of.ensures.made in
    let many = as_many_quotas words c.in_ok-quotas.quotas.items (arc_value c.in_ok-site.site) c.in_ok-quotas.ensures site in
    subst (λ f. IsNotRehearsed words f) (sym c.house_fault.ensures)
    (not_rehearsed words c.in-Err.cause c.in_ok-site_of.ensures.order (λ e good. c.in-Err.ensures.only_size e (good, many))
    (λ bad. c.in-Err.ensures.size (λ sized. bad sized.0)))

pub returns-in-Ok : goal.returns-in-Ok
returns-in-Ok g c =
    let words = c.args.words.now in
    let old = streams_of g.R.Read.remaining g.W.Write.contents c.args.reader c.args.writer in
    let new = streams_of g.R.Read.remaining g.W.Write.contents c.in-Ok.rehearsed.reader c.in-Ok.rehearsed.writer in
    let Held : Site → List (Option ℕ) → Type 0 = λ site quotas. IsRehearsed site quotas words.time old new c.in-Ok.rehearsed.ending in
    record {
      sound = c.in_ok-site_of.ensures.order;
      blocks = good_where_it_ran c.in-Ok.rehearsed (IsBlockCount words.blocks) (block_count words.blocks)
          (λ bad. c.in-Ok.ensures.size (λ sized. bad sized.0));
      rehearsed = subst (Held (named_site words.site)) c.in_ok-quotas.ensures
          (subst (λ (site : Site). Held site c.in_ok-quotas.quotas.items) (c.in_ok-site.ensures.ok ∙ c.in_ok-site_of.ensures.made)
          c.in-Ok.ensures.rehearses);
    }
