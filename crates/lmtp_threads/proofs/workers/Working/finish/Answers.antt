use Rattle.std.proofs.Common.{arith, ◌≡◌, false, length, ap, ◌∙◌, sym, subst, vec_items, vec_len, vec_capacity}
use Rattle.std.specs.List.{AllZip}
use Rattle.lmtp_threads.specs.Works.{share_of, spools_view}
use Rattle.lmtp_threads.specs.Columns.{no_columns, HoldReports}
use Rattle.lmtp_threads.specs.Grid.{lists}
use Rattle.lmtp_threads.specs.Reports.{WorkerColumns, thread_parts}
use Rattle.lmtp_threads.specs.Tasks.{thread_tasks, HaveWorked}
use Rattle.lmtp_threads.specs.ByThread.{AreTasksOf}
use Rattle.lmtp_threads.specs.ThreadWork.{IsThreadWork}
use Rattle.lmtp_threads.proofs.Pairs.{AllZip-length}
use Rattle.lmtp_threads.proofs.ThreadBacks.{backs, all_back, dealt, hold_all}
use Rattle.lmtp_threads.proofs.WorkedAll.{have_worked}
use Rattle.lmtp_threads.proofs.workers.Working.finish.Goals.{In-Some, After-take_threads-columns}
use Rattle.lmtp_threads.proofs.workers.Working.finish.Goals as goal

-- as many reports as tasks
reports_len : (g : _) (c : In-Some g) → vec_len c.in-Some.reports ≡ length c.self.inside.crew.tasks
reports_len g c = omega (arith, AllZip-length _ c.self.inside.crew.tasks (vec_items c.in-Some.reports) c.in-Some.ensures, c.in-Some.reports.ok.0)

pub take_threads-columns-requires : goal.take_threads-columns-requires
take_threads-columns-requires g c = subst (λ n. c.self.inside.threads ≡ no_columns n) (sym (reports_len g c)) c.self.invariant.0

pub in_turn-requires-clause-some : goal.in_turn-requires-clause-some
in_turn-requires-clause-some g c any =
    let reports = vec_items c.in-Some.reports in
    let lent = c.columns.inside.lent in
    let hold = subst (λ v. HoldReports thread_parts reports v) (sym c.columns.view_is) c.take_threads-columns.ensures in
    let some = c.self.invariant.2.some any in
    omega (arith, some, reports_len g (goal.at.in_turn-requires-clause-some g c).In-Some, AllZip-length _ reports (vec_items lent) hold.lent, lent.ok.0, c.in-Some.reports.ok.0)

pub in_turn-requires-clause-dealt : goal.in_turn-requires-clause-dealt
in_turn-requires-clause-dealt g c =
    let view = spools_view g.S.Spool.state g.S.Spool.MayFind g.S.Spool.MayRefuse g.T.TurnObserver.told in
    let reports = vec_items c.in-Some.reports in
    let hold = subst (λ v. HoldReports thread_parts reports v) (sym c.columns.view_is) c.take_threads-columns.ensures in
    dealt view c.self.inside.count c.self.inside.crew.tasks reports _ hold c.self.invariant.2 c.in-Some.ensures

pub returns-clause-worked : goal.returns-clause-worked
returns-clause-worked g c not_gone site channels given is inboxes_count are =
    let view = spools_view g.S.Spool.state g.S.Spool.MayFind g.S.Spool.MayRefuse g.T.TurnObserver.told in
    let reports = vec_items c.in-Some.reports in
    let me = c.columns.inside in
    let count = c.self.inside.count in
    let tasks = c.self.inside.crew.tasks in
    let held = c.in_turn.result in
    let hold = subst (λ v. HoldReports thread_parts reports v) (sym c.columns.view_is) c.take_threads-columns.ensures in
    let tasks_are : tasks ≡ thread_tasks (share_of site given.quotas) given.room 0 given.inboxes given.rows given.spools = c.self.view_is ∙ is in
    let came = backs view count tasks reports _ hold in
    let made : WorkerColumns _ = record {
      rows = lists (vec_items me.rows);
      inboxes = vec_items me.receivers;
      lent = held.lent;
      tallies = held.tallies;
      gone = me.gone;
      room = vec_capacity me.rows;
    } in
    let columns_are : c.new-2.result.columns ≡ made = c.new-2.ensures.columns in
    let sound : me.gone ≡ false = sym (ap (λ (x : WorkerColumns _). x.gone) columns_are) ∙ not_gone in
    let all = subst (λ l. AllZip (IsThreadWork view) l came) tasks_are (all_back view count tasks reports _ hold c.in-Some.ensures) in
    let of = hold_all view count tasks reports _ hold held (vec_capacity me.rows) c.in_turn.ensures in
    subst (λ x. HaveWorked site view channels given x) (sym columns_are)
    (have_worked view site channels given count came made of inboxes_count are (subst (AreTasksOf count) tasks_are c.self.invariant.2) all sound)
