use Rattle.std.proofs.Common.{[]}
use Rattle.std.proofs.lemmas.Result.{err_from_is_err_and}
use Rattle.lmtp_text.specs.Sites.{site_of}
use Rattle.lmtpd_setup.proofs.Orders.{host_refused}
use Rattle.lmtpd_setup.proofs.site.try_host.Goals as goal

pub returns-in_err-_site : goal.returns-in_err-_site
returns-in_err-_site c =
    let p = err_from_is_err_and c.from_residual.result c.from_residual.ensures.1 in
    let site = site_of c.args.host.now c.args.domains.now [] in
    rw (p.1, p.2) (host_refused site c.in_err-_site.field-0.0 c.in_err-_site.ensures.broken c.in_err-_site.ensures.whole)
