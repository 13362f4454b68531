use Rattle.std.proofs.Common.{ap, length, subst, sym}
use Rattle.std.specs.Arc.{arc_value}
use Rattle.lmtpd_setup.specs.declared.stop.Stop.TheVariants as stop
use Rattle.lmtpd_setup.specs.Mailboxes.{held_as}
use Rattle.lmtpd.specs.Program.{IsNotServed}
use Rattle.lmtpd.proofs.AsAsked.{as_many, no_server, served_as_asked, serving_is}
use Rattle.lmtpd.proofs.serve.asked.serve_opened.Goals as goal

pub returns-in-Ok : goal.returns-in-Ok
returns-in-Ok g c =
    let serving =
    serving_is c.args.words.now c.args.opened.socket c.args.setup.curfew c.args.setup.slow c.sizes_asked-sizes.result c.args.setup.quotas.items
    c.conversations_asked-conversations.result c.args.setup.logs.addresses c.sizes_asked-sizes.ensures c.requires.quotas
    c.conversations_asked-conversations.ensures c.requires.addresses in
    served_as_asked _ _ _ _ held_as c.args.words.now _ _ c.in-Ok.served (arc_value c.args.setup.site) _ c.args.opened c.args.setup.curfew c.args.setup.slow
    c.args.setup.spools.items c.requires.served c.requires.opened (c.requires.site, c.requires.sound) serving (c.requires.count, c.requires.mailboxes, c.requires.untold)
    c.requires.ends c.in-Ok.ensures.sized c.in-Ok.ensures.ran

pub returns-in-Err : goal.returns-in-Err
returns-in-Err g c =
    subst (λ f. IsNotServed c.args.words.now (stop.Fault f)) (sym c.house_fault.ensures)
    (no_server c.args.words.now c.conversations_asked-conversations.result.lanes c.in-Err.cause (arc_value c.args.setup.site) c.sizes_asked-sizes.result
    (length c.args.setup.spools.items) (length c.args.setup.quotas.items) (ap (λ held. held.lanes) c.conversations_asked-conversations.ensures)
    c.requires.served (c.requires.opened.0, c.requires.opened.1) (c.requires.site, c.requires.sound) c.sizes_asked-sizes.ensures
    (as_many c.args.words.now (length c.args.setup.spools.items) c.args.setup.quotas.items c.requires.count c.requires.quotas)
    (λ e. c.in-Err.ensures.size.0 e) c.in-Err.ensures.sized)
