use Rattle.std.specs.Arc.{arc_value}
use Rattle.lmtp_threads.specs.Works.{visits_view, spools_view}
use Rattle.lmtp_house.specs.HousePlan.{HasRunAll}
use Rattle.lmtp_house.proofs.HouseEnd.{if_ok}
use Rattle.lmtp_house.proofs.house.run.run_at.Goals as goal

pub returns-clause-ran : goal.returns-clause-ran
returns-clause-ran g c =
    let view = visits_view g.V.Visits.MayGive g.V.Visits.finished g.V.Visits.over g.O.Observer.told in
    let spools = spools_view g.S.Spool.state g.S.Spool.MayFind g.S.Spool.MayRefuse g.T.TurnObserver.told in
    if_ok (λ report. HasRunAll g.C.Clock.May view spools c.in_ok-plan.plan report) _ c.run.result c.run.ensures.ran
    (λ report h. h (arc_value c.args.site) (arc_value c.args.clock) c.args.handed c.in_ok-plan.ensures)
