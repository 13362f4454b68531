use Rattle.std.proofs.Common.{rules, vec_items}
use Rattle.std.proofs.lemmas.List.{nil_from_length}
use Rattle.std.specs.Vec.Iter.{into_iter_items}
use Rattle.lmtp_threads.specs.Reports.{lane_parts}
use Rattle.lmtp_threads.specs.Works.{visits_view}
use Rattle.lmtp_threads.proofs.Filling.{filling_none, filling_fits, filling_more, filling_all}
use Rattle.lmtp_threads.proofs.lanes.take_lanes.Goals as goal

pub loop-report-init : goal.loop-report-init
loop-report-init g c =
    let view = visits_view g.V.Visits.MayGive g.V.Visits.finished g.V.Visits.over g.O.Observer.told in
    filling_none (lane_parts view) (into_iter_items c.into_iter-report-iterator.result) (vec_items c.args.reports) c.args.columns
    (search rules) (search rules)

pub take_lane-requires : goal.take_lane-requires
take_lane-requires g c =
    filling_fits _ c.loop-report.invariant c.in-Some.report (into_iter_items c.next.new.self)
    c.in-Some.ensures.steps.0

pub loop-report-preserved : goal.loop-report-preserved
loop-report-preserved g c =
    filling_more _ c.loop-report.invariant c.in-Some.report (into_iter_items c.next.new.self)
    c.take_lane.new.columns c.in-Some.ensures.steps.0 c.take_lane.ensures

pub returns : goal.returns
returns g c =
    filling_all _ c.loop-report.invariant
    (nil_from_length (into_iter_items c.loop-report.report-iterator) (search rules))
