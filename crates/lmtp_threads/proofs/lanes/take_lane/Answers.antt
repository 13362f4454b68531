use Rattle.std.proofs.Common.{refl, subst}
use Rattle.lmtp_lane.specs.LaneRun.{LaneBack}
use Rattle.lmtp_threads.specs.Columns.{TakesReport}
use Rattle.lmtp_threads.specs.Reports.{lane_parts}
use Rattle.lmtp_threads.specs.Works.{visits_view}
use Rattle.lmtp_threads.proofs.lanes.take_lane.Goals as goal

pub returns : goal.returns
returns g c =
    let view = visits_view g.V.Visits.MayGive g.V.Visits.finished g.V.Visits.over g.O.Observer.told in
    let Takes : LaneBack → Type 0 = λ r. TakesReport (lane_parts view) r c.args.columns.now c.push.new.self in
    subst Takes c.report.view_is (record {
      lent = record { inner = c.report.inside.visits; observer = c.report.inside.observer };
      tells = (refl, refl, refl);
      is = c.push.ensures;
    })
