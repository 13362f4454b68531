use Rattle.std.proofs.Common.{arith, ◌≡◌, ◌<◌, ℕ, List, Option, None, sym, subst, vec_items, vec_capacity}
use Rattle.std.specs.Arc.{arc_value}
use Rattle.mail_world.specs.declared.Note.{Note}
use Rattle.mail_world.specs.declared.Slip.{Slip}
use Rattle.mail_world.specs.Site.{Site}
use Rattle.mail_post.specs.Channel.{Sender, Inbox}
use Rattle.mail_post.specs.InTime.{Ends}
use Rattle.mail_post.specs.Offered.{HaveNumber}
use Rattle.lmtp_threads.specs.Works.{SpoolsView, share_of, spools_view}
use Rattle.lmtp_threads.specs.Reports.{ThreadBack, thread_back}
use Rattle.lmtp_threads.specs.Tasks.{Numbered, ThreadTask}
use Rattle.lmtp_threads.specs.ByThread.{IsOwner}
use Rattle.lmtp_threads.specs.ThreadWork.{IsThreadWork}
use Rattle.lmtp_threads.proofs.KeptBoxes.{places, of_thread, thread_work}
use Rattle.lmtp_threads.proofs.OwnChannels.{HaveWorkedAlone, alone_in_order, alone_patiently}
use Rattle.lmtp_threads.proofs.worker_job.WorkerJobTask.run.Goals as goal

-- what the thread read of the site and of the quotas is what its job holds
as_held : {S : Type 0} (view : SpoolsView S) (back : ThreadBack) (room thread : ℕ) (receiver : Inbox Note) (slips : List (Sender Slip))
    (boxes : List (Numbered S)) (site read : Site) (quotas noted : List (Option ℕ)) (job : ThreadTask S) → read ≡ site → noted ≡ quotas
    → record { share = share_of site quotas; room = room; thread = thread; receiver = receiver; slips = slips; boxes = boxes } ≡ job
    → IsThreadWork view (record { share = share_of read noted; room = room; thread = thread; receiver = receiver; slips = slips; boxes = boxes }) back
    → IsThreadWork view job back
as_held {S} view back room thread receiver slips boxes site read quotas noted job same_site same_quotas is made =
    let At : Site → List (Option ℕ) → ThreadTask S = λ s q. record {
      share = share_of s q;
      room = room;
      thread = thread;
      receiver = receiver;
      slips = slips;
      boxes = boxes;
    } in
    subst (λ t. IsThreadWork view t back) is
    (subst (λ q. IsThreadWork view (At site q) back) same_quotas (subst (λ s. IsThreadWork view (At s noted) back) same_site made))

pub thread_run-requires-clause-places : goal.thread_run-requires-clause-places
thread_run-requires-clause-places g c =
    let view = spools_view g.S.Spool.state g.S.Spool.MayFind g.S.Spool.MayRefuse g.T.TurnObserver.told in
    let me = c.self.inside in
    places view c.deref.result.now (arc_value me.base.site) me.base.room me.thread me.receiver (vec_items me.slips) (vec_items me.boxes)
    (vec_items c.keep_all-kept.result) c.keep_all-kept.ensures (subst (λ t. IsOwner t) (sym c.self.view_is) c.requires.1)

pub thread_run-requires-clause-numbered : goal.thread_run-requires-clause-numbered
thread_run-requires-clause-numbered g c =
    let view = spools_view g.S.Spool.state g.S.Spool.MayFind g.S.Spool.MayRefuse g.T.TurnObserver.told in
    let me = c.self.inside in
    of_thread view c.deref.result.now (arc_value me.base.site) me.base.room me.thread me.receiver (vec_items me.slips) (vec_items me.boxes)
    (vec_items c.keep_all-kept.result) c.keep_all-kept.ensures (subst (λ t. IsOwner t) (sym c.self.view_is) c.requires.1)
    (subst (λ (t : ThreadTask _). HaveNumber t.thread t.slips) (sym c.self.view_is) c.requires.0.thread)

pub patient_run-requires-clause-places : goal.patient_run-requires-clause-places
patient_run-requires-clause-places g c =
    let view = spools_view g.S.Spool.state g.S.Spool.MayFind g.S.Spool.MayRefuse g.T.TurnObserver.told in
    let me = c.self.inside in
    places view c.deref.result.now (arc_value me.base.site) me.base.room me.thread me.receiver (vec_items me.slips) (vec_items me.boxes)
    (vec_items c.keep_all-kept.result) c.keep_all-kept.ensures (subst (λ t. IsOwner t) (sym c.self.view_is) c.requires.1)

pub patient_run-requires-clause-numbered : goal.patient_run-requires-clause-numbered
patient_run-requires-clause-numbered g c =
    let view = spools_view g.S.Spool.state g.S.Spool.MayFind g.S.Spool.MayRefuse g.T.TurnObserver.told in
    let me = c.self.inside in
    of_thread view c.deref.result.now (arc_value me.base.site) me.base.room me.thread me.receiver (vec_items me.slips) (vec_items me.boxes)
    (vec_items c.keep_all-kept.result) c.keep_all-kept.ensures (subst (λ t. IsOwner t) (sym c.self.view_is) c.requires.1)
    (subst (λ (t : ThreadTask _). HaveNumber t.thread t.slips) (sym c.self.view_is) c.requires.0.thread)

pub patient_run-requires-clause-open : goal.patient_run-requires-clause-open
patient_run-requires-clause-open g c = subst (λ (t : ThreadTask _). t.receiver.gone ≡ None) (sym c.self.view_is) c.requires.0.not_gone

pub patient_run-requires-clause-none : goal.patient_run-requires-clause-none
patient_run-requires-clause-none g c = c.self.invariant.1.empty

pub patient_run-requires-clause-some : goal.patient_run-requires-clause-some
patient_run-requires-clause-some g c = omega (arith, c.capacity.ensures, c.if-capacity-eq0.false)

pub returns-then-capacity-eq0 : goal.returns-then-capacity-eq0
returns-then-capacity-eq0 g c =
    let view = spools_view g.S.Spool.state g.S.Spool.MayFind g.S.Spool.MayRefuse g.T.TurnObserver.told in
    let me = c.self.inside in
    let site = c.deref-then-capacity-eq0-2.result.now in
    let back = thread_back c.thread_run.result in
    let says = c.thread_run.ensures in
    let old : Ends Slip Note = record { senders = vec_items me.slips; inbox = me.receiver } in
    let now : Ends Slip Note = record { senders = back.slips; inbox = back.receiver } in
    as_held view back me.base.room me.thread me.receiver (vec_items me.slips) (vec_items me.boxes) (arc_value me.base.site) site (arc_value me.base.quotas)
    c.deref.result.now _ c.deref-then-capacity-eq0-2.ensures c.deref.ensures c.self.view_is
    (thread_work view c.deref.result.now site me.base.room me.thread me.receiver (vec_items me.slips) (vec_items me.boxes) (vec_items c.keep_all-kept.result)
    c.keep_all-kept.ensures back
    (λ none starts new. alone_in_order me.base.room site view.manner starts old now back.lost back.boxes (says.worked starts new))
    says.numbers says.channel says.lost says.numbered says.only)

pub returns-else-capacity-eq0 : goal.returns-else-capacity-eq0
returns-else-capacity-eq0 g c =
    let view = spools_view g.S.Spool.state g.S.Spool.MayFind g.S.Spool.MayRefuse g.T.TurnObserver.told in
    let me = c.self.inside in
    let site = c.deref-else-capacity-eq0-2.result.now in
    let back = thread_back c.patient_run.result in
    let says = c.patient_run.ensures in
    let old : Ends Slip Note = record { senders = vec_items me.slips; inbox = me.receiver } in
    let now : Ends Slip Note = record { senders = back.slips; inbox = back.receiver } in
    let some : 0 < vec_capacity me.waits = omega (arith, c.capacity.ensures, c.if-capacity-eq0.false) in
    as_held view back me.base.room me.thread me.receiver (vec_items me.slips) (vec_items me.boxes) (arc_value me.base.site) site (arc_value me.base.quotas)
    c.deref.result.now _ c.deref-else-capacity-eq0-2.ensures c.deref.ensures c.self.view_is
    (thread_work view c.deref.result.now site me.base.room me.thread me.receiver (vec_items me.slips) (vec_items me.boxes) (vec_items c.keep_all-kept.result)
    c.keep_all-kept.ensures back
    (λ none starts new. subst (λ room. HaveWorkedAlone room site view.manner starts old now back.lost back.boxes) (c.self.invariant.1.exact some)
    (alone_patiently (vec_capacity me.waits) site view.manner starts old now back.lost back.boxes (says.worked none starts new)))
    says.numbers says.channel says.lost says.numbered says.only)
