use Rattle.std.proofs.Common.{sym, subst}
use Rattle.lmtp_threads.specs.Works.{spools_view, is_out}
use Rattle.lmtp_house.specs.HousePlan.{IsPlanned, MayRun}
use Rattle.lmtp_house.proofs.HousePlan.{lanes_ready, threads_ready}
use Rattle.lmtp_house.proofs.HouseEnd.{served_as, worked_as, mail_may_close, mail_may_settle, slips_may_close, slips_may_settle, run_is}
use Rattle.lmtp_house.proofs.house.plan.Plan.run.Goals as goal

pub serve_all-requires-clause-lanes : goal.serve_all-requires-clause-lanes
serve_all-requires-clause-lanes g c κs within = lanes_ready (is_out g.V.Visits.out) _ (subst (MayRun (is_out g.V.Visits.out)) (sym c.self.view_is) c.requires)

pub serve_all-requires-clause-workers : goal.serve_all-requires-clause-workers
serve_all-requires-clause-workers g c κs within = threads_ready (is_out g.V.Visits.out) _ (subst (MayRun (is_out g.V.Visits.out)) (sym c.self.view_is) c.requires)

pub close-closed-requires : goal.close-closed-requires
close-closed-requires g c =
    let r = subst (MayRun (is_out g.V.Visits.out)) (sym c.self.view_is) c.requires in
    let served = served_as g.C.Clock.May _ _ _ _ c.ends.view_is c.in_ok-ends.ensures.served in
    mail_may_close g.C.Clock.May _
    (spools_view g.S.Spool.state g.S.Spool.MayFind g.S.Spool.MayRefuse g.T.TurnObserver.told) _ r.site r.clock r.handed r.planned _ served

pub close-slips_closed-requires : goal.close-slips_closed-requires
close-slips_closed-requires g c =
    let r = subst (MayRun (is_out g.V.Visits.out)) (sym c.self.view_is) c.requires in
    let served = served_as g.C.Clock.May _ _ _ _ c.ends.view_is c.in_ok-ends.ensures.served in
    let worked = worked_as _ _ _ _ _ c.done.view_is c.in_ok-ends.ensures.working c.finish-done.ensures.worked c.if-done.false in
    slips_may_close g.C.Clock.May _ _ _ r.site r.clock r.handed r.planned _ served _ worked _ c.close-closed.ensures.sent

pub settle_all-requires : goal.settle_all-requires
settle_all-requires g c =
    let r = subst (MayRun (is_out g.V.Visits.out)) (sym c.self.view_is) c.requires in
    let served = served_as g.C.Clock.May _ _ _ _ c.ends.view_is c.in_ok-ends.ensures.served in
    let worked = worked_as _ _ _ _ _ c.done.view_is c.in_ok-ends.ensures.working c.finish-done.ensures.worked c.if-done.false in
    mail_may_settle g.C.Clock.May _ _ _ r.site r.clock r.handed r.planned _ served _ worked _ c.close-closed.ensures.sent

pub settle_all-requires-2 : goal.settle_all-requires-2
settle_all-requires-2 g c =
    let r = subst (MayRun (is_out g.V.Visits.out)) (sym c.self.view_is) c.requires in
    let served = served_as g.C.Clock.May _ _ _ _ c.ends.view_is c.in_ok-ends.ensures.served in
    let worked = worked_as _ _ _ _ _ c.done.view_is c.in_ok-ends.ensures.working c.finish-done.ensures.worked c.if-done.false in
    slips_may_settle g.C.Clock.May _ _ _ r.site r.clock r.handed r.planned _ served _ worked _ c.close-closed.ensures.sent
    _ c.close-slips_closed.ensures.sent

pub returns-clause-ran : goal.returns-clause-ran
returns-clause-ran g c site clock handed planned =
    let p = subst (IsPlanned site clock handed) (sym c.self.view_is) planned in
    let served = served_as g.C.Clock.May _ _ _ _ c.ends.view_is c.in_ok-ends.ensures.served in
    let worked = worked_as _ _ _ _ _ c.done.view_is c.in_ok-ends.ensures.working c.finish-done.ensures.worked c.if-done.false in
    run_is g.C.Clock.May _ _ _ site clock handed p _ served _ worked _ c.close-closed.ensures.sent
    _ c.close-slips_closed.ensures.sent c.args.room.blocks c.args.room.slots c.close-closed.ensures.times c.close-slips_closed.ensures.times c.settle_all.ensures c.settle_all-2.ensures
