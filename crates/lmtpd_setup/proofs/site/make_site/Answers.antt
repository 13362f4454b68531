use Rattle.std.proofs.Common.{◌≡◌, ◌∙◌, ◌<◌, ◌≤◌, arith, length, List, ℕ, subst, sym}
use Rattle.std.specs.Borrow.{Bor}
use Rattle.std.proofs.lemmas.List.{length-map}
use Rattle.mail_world.specs.Site.{IsSite}
use Rattle.lmtp_text.specs.Sites.{site_of, texts}
use Rattle.lmtpd_setup.proofs.Orders.{listed_named, none_of_none, none_said, own_named}
use Rattle.lmtpd_setup.proofs.site.make_site.Goals as goal

pub site_of_names-requires-clause-own : goal.site_of_names-requires-clause-own
site_of_names-requires-clause-own c = own_named c.args.suffix.now c.args.own (texts c.args.boxes.now) c.in_ok-try_each_box.ensures.0

pub site_of_names-requires-clause-listed : goal.site_of_names-requires-clause-listed
site_of_names-requires-clause-listed c = listed_named c.args.suffix.now c.args.own (texts c.args.boxes.now) c.in_ok-try_each_box.ensures.0

pub returns-clause-order : goal.returns-clause-order
returns-clause-order c =
    let boxes = c.args.boxes.now in
    let site = site_of c.args.host.now c.args.domains.now boxes in
    let same = length-map boxes (λ (name : Bor (List ℕ)). name.now) in
    let within : length (texts boxes) ≤ c.args.limit = omega (arith, c.in_ok-try_each_box.ensures.1, same) in
    none_said c.args.limit c.args.suffix.now c.args.own site
    (subst IsSite c.in_ok-site.ensures.made c.in_ok-site.ensures.sound)
    (none_of_none c.args.host.now c.args.domains.now boxes _ c.is_empty.ensures ∙ c.if-is_empty.false)
    c.in_ok-try_each_box.ensures.0 within
