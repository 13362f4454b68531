use Rattle.std.proofs.Common.{vec_items}
use Rattle.std.specs.Vec.Iter.{into_iter_items}
use Rattle.lmtp_threads.specs.Reports.{lane_parts}
use Rattle.lmtp_threads.specs.Works.{visits_view}
use Rattle.lmtp_threads.proofs.Filling.{AreFilling}
use Rattle.lmtp_threads.proofs.lanes.take_lanes.Given as goal

abbrev pub invariant-loop-report : goal.invariant-loop-report
invariant-loop-report g l =
    let view = visits_view g.V.Visits.MayGive g.V.Visits.finished g.V.Visits.over g.O.Observer.told in
    AreFilling (lane_parts view) (into_iter_items l.report-iterator) (vec_items l.fn.reports) l.columns
