-- Lanes and worker threads that are planned may run, and their channels may be closed and settled.
use Rattle.std.proofs.Common.{◌≡◌, ℕ, ◌<◌, Bool, false, List, [], length, refl, sym, ap, ◌∙◌, subst, arith, Some}
use Rattle.std.specs.Prelude.{slice_get}
use Rattle.std.specs.List.{AllByRecursion}
use Rattle.std.proofs.lemmas.List.{length-map}
use Rattle.std.proofs.lemmas.Option.{slice_get_within}
use Rattle.mail_world.specs.declared.Note.{Note}
use Rattle.mail_world.specs.declared.Slip.{Slip}
use Rattle.mail_post.specs.Channel.{Sender, Inbox, taken, new_inbox}
use Rattle.mail_post.specs.WorkerThreads.{threads_for}
use Rattle.box_worker.specs.Shares.{AreFresh}
use Rattle.lmtp_threads.specs.OwnChannel.{room_beside}
use Rattle.lmtp_threads.specs.Works.{share_of}
use Rattle.lmtp_threads.specs.Channels.{Shape, channels_of, lane_at, AreRows, AreNewChannels, MayClose}
use Rattle.lmtp_threads.specs.Tasks.{lane_tasks, thread_tasks, IsLaneReady, IsThreadReady}
use Rattle.lmtp_house.specs.HousePlan.{PlanState, MayRun}
use Rattle.lmtp_threads.proofs.ChannelRows.{at, same_at, at_each, each_at}
use Rattle.lmtp_threads.proofs.ServedAll.{task_at}
use Rattle.lmtp_threads.proofs.ByThread.{task_at as thread_task_at}

module _ {M : Type 0} where
  -- as many senders in a row as channels
  row_width : {capacity : ℕ} (n count : ℕ) (rows : List (List (Sender M))) (inboxes : List (Inbox M))
      → AreNewChannels capacity n count rows inboxes → (k : ℕ) (row : List (Sender M)) → slice_get rows k ≡ Some row → length row ≡ count
  row_width n count rows inboxes new k row e = new.rows_are.widths k row e ∙ (length-map inboxes (λ (i : Inbox M). i.channel) ∙ new.counts)

  -- each is of the row's lane
  row_lane : {capacity : ℕ} (n count : ℕ) (rows : List (List (Sender M))) (inboxes : List (Inbox M))
      → AreNewChannels capacity n count rows inboxes → (k : ℕ) (row : List (Sender M)) → slice_get rows k ≡ Some row
      → (b : ℕ) (sender : Sender M) → slice_get row b ≡ Some sender → sender.number ≡ k
  row_lane n count rows inboxes new k row e b sender f =
      let l = at (channels_of inboxes) b (omega (arith, new.rows_are.widths k row e, slice_get_within row b sender f)) in
      let cell = new.rows_are.cells k b row l.value e l.is in
      ap (λ (v : Sender M). v.number) (same_at row b sender (lane_at l.value k [] cell.0) f cell.1)

  -- and was told nothing
  row_none : {capacity : ℕ} (n count : ℕ) (rows : List (List (Sender M))) (inboxes : List (Inbox M))
      → AreNewChannels capacity n count rows inboxes → (k : ℕ) (row : List (Sender M)) → slice_get rows k ≡ Some row
      → (b : ℕ) (sender : Sender M) → slice_get row b ≡ Some sender → sender.sent ≡ []
  row_none n count rows inboxes new k row e b sender f =
      let l = at (channels_of inboxes) b (omega (arith, new.rows_are.widths k row e, slice_get_within row b sender f)) in
      let cell = new.rows_are.cells k b row l.value e l.is in
      ap (λ (v : Sender M). v.sent) (same_at row b sender (lane_at l.value k [] cell.0) f cell.1)

  pub may_close : {capacity : ℕ} (n count : ℕ) (shape : Shape) (rows : List (List (Sender M))) (inboxes : List (Inbox M)) (sent : ℕ → ℕ → List M)
      (rows_after : List (List (Sender M))) → AreNewChannels capacity n count rows inboxes
      → shape ≡ record { lanes = n; count = count } → 0 < n → AreRows n (channels_of inboxes) sent rows_after → MayClose shape rows_after
  may_close n count shape rows inboxes sent rows_after new is some are = record {
    channels = channels_of inboxes;
    sent = sent;
    some = omega (arith, some, ap (λ (s : Shape). s.lanes) is);
    count = length-map inboxes (λ (i : Inbox M). i.channel) ∙ (new.counts ∙ sym (ap (λ (s : Shape). s.count) is));
    rows_are = subst (λ m. AreRows m (channels_of inboxes) sent rows_after) (sym (ap (λ (s : Shape). s.lanes) is)) are;
  }

-- nothing has gone through a worker thread's ends
row_fresh : {capacity room : ℕ} (threads lanes : ℕ) (rows : List (List (Sender Slip))) (inboxes : List (Inbox Slip))
    → AreNewChannels room threads lanes rows inboxes → (k : ℕ) (row : List (Sender Slip)) → slice_get rows k ≡ Some row
    → (mail : Inbox Note) → mail ≡ new_inbox mail.channel capacity lanes → AreFresh row mail
row_fresh threads lanes rows inboxes new k row e mail is = record {
  got = ap (λ (i : Inbox Note). taken i) is;
  got_at = ap (λ (i : Inbox Note). i.got_at) is;
  took_at = ap (λ (i : Inbox Note). i.took_at) is;
  sent = λ b sender f. (row_none threads lanes rows inboxes new k row e b sender f, new.timeless k b row sender e f);
}

module _ {V S C : Type 0} (out : V → Bool) (plan : PlanState V S C) (may : MayRun out plan) where
  pub lanes_ready : AllByRecursion (IsLaneReady out) plan.lanes
  lanes_ready =
      let p = may.planned in
      subst (λ l. AllByRecursion (IsLaneReady out) l) (sym p.lanes_are)
      (each_at (IsLaneReady out) (lane_tasks may.site may.clock 0 may.handed.visits p.mail_rows p.slips) (λ k task e.
      let t = task_at may.site may.clock 0 may.handed.visits p.mail_rows p.slips k task e in
      subst (λ j. IsLaneReady out j) (sym t.is) (record {
        site = refl;
        count = row_width (length may.handed.visits) (threads_for (length may.handed.spools)) p.mail_rows p.mail p.mail_new k t.row t.row_is
            ∙ ap threads_for p.each_box;
        lane = λ b sender f. row_lane (length may.handed.visits) (threads_for (length may.handed.spools)) p.mail_rows p.mail p.mail_new k t.row t.row_is b sender f
            ∙ omega arith;
        none_out = at_each (λ v. out v ≡ false) may.handed.visits may.none_out k t.visit t.visit_is;
      })))

  abbrev threads : ℕ
  threads = threads_for (length may.handed.spools)

  pub threads_ready : AllByRecursion IsThreadReady plan.workers
  threads_ready =
      let p = may.planned in
      let lanes : ℕ = length may.handed.visits in
      let room : ℕ = room_beside (length may.handed.spools) lanes in
      subst (λ l. AllByRecursion IsThreadReady l) (sym p.workers_are)
      (each_at IsThreadReady (thread_tasks (share_of may.site may.handed.quotas) room 0 p.mail p.slip_rows may.handed.spools) (λ k task e.
      let t = thread_task_at (share_of may.site may.handed.quotas) room 0 p.mail p.slip_rows may.handed.spools k task e in
      let fresh = p.mail_new.inboxes_are k t.inbox t.inbox_is in
      subst (λ j. IsThreadReady j) (sym t.is) (record {
        fresh = row_fresh threads lanes p.slip_rows p.slips p.slips_new k t.row t.row_is t.inbox fresh;
        not_gone = ap (λ (i : Inbox _). i.gone) fresh;
        lanes = row_width threads lanes p.slip_rows p.slips p.slips_new k t.row t.row_is ∙ sym (ap (λ (i : Inbox _). i.lanes) fresh);
        thread = λ b sender f. row_lane threads lanes p.slip_rows p.slips p.slips_new k t.row t.row_is b sender f ∙ omega arith;
      })))
