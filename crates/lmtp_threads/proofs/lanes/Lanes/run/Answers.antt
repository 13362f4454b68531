use Rattle.std.proofs.Common.{arith, ◌≡◌, length, ap, sym, ◌∙◌, subst, vec_items, vec_len}
use Rattle.std.specs.List.{AllZip, AllByRecursion}
use Rattle.lmtp_threads.specs.Columns.{no_columns}
use Rattle.lmtp_threads.specs.Works.{visits_view, is_out}
use Rattle.lmtp_threads.specs.Tasks.{lane_tasks, IsLaneReady}
use Rattle.lmtp_threads.proofs.Pairs.{AllZip-length}
use Rattle.lmtp_threads.proofs.ServedAll.{LaneOk, have_served}
use Rattle.lmtp_threads.proofs.lanes.Lanes.run.Goals.{In-Some}
use Rattle.lmtp_threads.proofs.lanes.Lanes.run.Goals as goal

-- as many reports as jobs
reports_len : (g : _) (c : In-Some g) → vec_len c.in-Some.reports ≡ vec_len c.self.inside.jobs
reports_len g c =
    omega (
      arith,
      AllZip-length _ c.start_all-started.new.self.tasks (vec_items c.in-Some.reports) c.in-Some.ensures,
      ap length c.in_ok-started.ensures,
      c.in-Some.reports.ok.0,
      c.self.inside.jobs.ok.0,
    )

pub take_lanes-requires : goal.take_lanes-requires
take_lanes-requires g c = subst (λ n. c.self.inside.columns ≡ no_columns n) (sym (reports_len g c)) c.self.invariant.1

pub returns-in-Some : goal.returns-in-Some
returns-in-Some g c not_gone site clock channels given is count are =
    let reports = vec_items c.in-Some.reports in
    let view = visits_view g.V.Visits.MayGive g.V.Visits.finished g.V.Visits.over g.O.Observer.told in
    let tasks_are : c.start_all-started.new.self.tasks ≡ lane_tasks site clock 0 given.visits given.rows given.inboxes = c.in_ok-started.ensures ∙ (c.self.view_is ∙ is) in
    let all = subst (λ l. AllZip (LaneOk g.C.Clock.May view) l reports) tasks_are c.in-Some.ensures in
    have_served g.C.Clock.May view site clock channels given reports c.take_lanes.result c.take_lanes.ensures count are all not_gone

pub start_all-started-requires-clause-ready : goal.start_all-started-requires-clause-ready
start_all-started-requires-clause-ready g c κs within = subst (λ l. AllByRecursion (λ t. IsLaneReady (is_out g.V.Visits.out) t) l) (sym c.self.view_is) c.requires
