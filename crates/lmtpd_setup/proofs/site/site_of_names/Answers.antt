use Rattle.std.proofs.Common.{◌≡◌, ◌++◌, List, ℕ, subst}
use Rattle.std.specs.Prelude.{IfErr, IfOk}
use Rattle.std.specs.Borrow.{Bor}
use Rattle.std.proofs.lemmas.List.{take_rest}
use Rattle.std.proofs.lemmas.Result.{err_from_is_err_and}
use Rattle.mail_world.specs.Site.{Site}
use Rattle.lmtp_text.specs.Sites.{IsListedFault, texts}
use Rattle.lmtpd_setup.proofs.Orders.{given_in_all, listed_in_all, made_of_all}
use Rattle.lmtpd_setup.proofs.site.site_of_names.Goals as goal

pub returns-in_err-site-clause-refused : goal.returns-in_err-site-clause-refused
returns-in_err-site-clause-refused c =
    let p = err_from_is_err_and c.from_residual.result c.from_residual.ensures.1 in
    rw (p.1, p.2) (given_in_all c.args.host.now c.args.domains.now c.args.boxes.now c.args.own c.in_err-site.field-0.0 c.requires.host
    c.requires.count c.requires.within c.if-own-eq0.false c.requires.own c.in_err-site.ensures.broken c.in_err-site.ensures.whole)

pub returns-clause-made : goal.returns-clause-made
returns-clause-made c =
    let boxes = c.args.boxes.now in
    let site = c.in_ok-site.site in
    made_of_all c.args.host.now c.args.domains.now boxes c.args.own site c.with_listed.result c.in_ok-site.ensures.made
    (subst (λ (l : List (Bor (List ℕ))). IfOk c.with_listed.result (λ (s : Site). s ≡ record site { boxes = site.boxes ++ texts l }))
    (take_rest boxes c.args.own) c.with_listed.ensures.made)

pub returns-clause-refused : goal.returns-clause-refused
returns-clause-refused c =
    let boxes = c.args.boxes.now in
    let site = c.in_ok-site.site in
    listed_in_all c.args.host.now c.args.domains.now boxes c.args.own site c.with_listed.result c.requires.host c.requires.count
    c.in_ok-site.ensures.made c.in_ok-site.ensures.sound c.requires.listed
    (subst (λ (l : List (Bor (List ℕ))). IfErr c.with_listed.result (IsListedFault (record site { boxes = site.boxes ++ texts l })))
    (take_rest boxes c.args.own) c.with_listed.ensures.refused)
