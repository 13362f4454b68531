-- A planned server's run, once its threads have ended: its channels may be closed and settled, and what it comes to.
use Rattle.std.proofs.Common.{◌≡◌, ℕ, ◌<◌, false, List, length, refl, sym, ap, ◌∙◌, subst, arith}
use Rattle.std.specs.List.{AllZip}
use Rattle.std.specs.Prelude.{flat_map, Result, Ok, Err, IfOk}
use Rattle.mail_world.specs.declared.Note.{Note}
use Rattle.mail_world.specs.declared.Slip.{Slip}
use Rattle.mail_world.specs.Site.{Site}
use Rattle.mail_world.specs.Lists.{copies, transactions}
use Rattle.mail_post.specs.Channel.{Channel, Sender, Sent}
use Rattle.mail_post.specs.WorkerThreads.{worker_thread, threads_for}
use Rattle.lmtp_lane.specs.LaneExchange.{for_thread}
use Rattle.lmtp_lane.specs.Visits.{conversations_of}
use Rattle.lmtp_threads.specs.OwnChannel.{room_beside}
use Rattle.lmtp_threads.specs.Works.{VisitsView, SpoolsView}
use Rattle.lmtp_house.specs.Handed.{HandedIn}
use Rattle.lmtp_house.specs.House.{HasRun}
use Rattle.lmtp_threads.specs.Channels.{Shape, channels_of, none, AreRows, AreClosedWith, HaveTimes, MayClose, CanSettle, IsSettled}
use Rattle.lmtp_threads.specs.Reports.{LaneColumns, WorkerColumns}
use Rattle.lmtp_threads.specs.Tasks.{LaneTask, ThreadTask, LanesGiven, WorkersGiven, HaveServed, HaveServedAll, HaveWorked, HaveWorkedAll}
use Rattle.lmtp_house.specs.HousePlan.{PlanState, IsPlanned}
use Rattle.lmtp_house.proofs.HousePlan.{may_close}
use Rattle.lmtp_house.proofs.HouseSettled.{can_settle, has_run}

-- what follows from an Ok
pub if_ok : {A E : Type 0} (P Q : A → Type 0) (r : Result A E) → IfOk r P → ((x : A) → P x → Q x) → IfOk r Q
if_ok P Q (Ok x) h f = f x h
if_ok P Q (Err e) h f = h

-- some mailboxes have some worker threads
some_threads : (boxes : ℕ) → 0 < boxes → 0 < threads_for boxes
some_threads boxes some = omega (arith, some)

-- the lanes' columns, opened
pub served_as : {V C : Type 0} (May : C → ℕ → Type 0) (view : VisitsView V) (tasks : List (LaneTask V C)) (lanes back : LaneColumns V) → lanes ≡ back
    → HaveServedAll May view tasks back → HaveServedAll May view tasks lanes
served_as May view tasks lanes back opened served = subst (HaveServedAll May view tasks) (sym opened) served

-- the worker threads' columns, opened; those that run are those that were planned
pub worked_as : {S : Type 0} (spools : SpoolsView S) (working tasks : List (ThreadTask S)) (boxes back : WorkerColumns S) → boxes ≡ back → working ≡ tasks
    → (back.gone ≡ false → HaveWorkedAll spools working back) → boxes.gone ≡ false → HaveWorkedAll spools tasks boxes
worked_as spools working tasks boxes back opened same worked none =
    let Worked : WorkerColumns _ → Type 0 = λ e. e.gone ≡ false → HaveWorkedAll spools working e in
    subst (λ l. HaveWorkedAll spools l boxes) same (subst Worked (sym opened) worked none)

-- closing gives this
abbrev pub Closes : {M : Type 0} → Shape → List (List (Sender M)) → List (Sent M) → Type 0
Closes {M} shape rows closed =
    (channels : List (Channel M)) (sent : ℕ → ℕ → List M) → AreRows shape.lanes channels sent rows → AreClosedWith shape.lanes channels sent closed

module _ {V S C : Type 0} (May : C → ℕ → Type 0) (view : VisitsView V) (spools : SpoolsView S) (plan : PlanState V S C)
    (site : Site) (clock : C) (handed : HandedIn V S) (p : IsPlanned site clock handed plan)
    (lanes : LaneColumns V) (served : HaveServedAll May view plan.lanes lanes) where
  abbrev lanes_given : LanesGiven V
  lanes_given = record { visits = handed.visits; rows = p.mail_rows; inboxes = p.slips }

  abbrev boxes_given : WorkersGiven S
  boxes_given = record {
    room = room_beside (length handed.spools) (length handed.visits);
    inboxes = p.mail;
    rows = p.slip_rows;
    spools = handed.spools;
    quotas = handed.quotas;
  }

  lanes_ran : HaveServed site (May clock) view (channels_of p.mail) lanes_given lanes
  lanes_ran = served site clock (channels_of p.mail) lanes_given p.lanes_are p.slips_new.counts p.mail_new.rows_are

  abbrev threads : ℕ
  threads = threads_for (length handed.spools)

  abbrev owed_by : ℕ → ℕ → List Note
  owed_by k t = for_thread t (flat_map (copies k) (transactions site 0 (conversations_of (lanes_ran.works k).visits)))

  pub mail_may_close : MayClose plan.mail lanes.rows
  mail_may_close =
      may_close (length handed.visits) threads plan.mail p.mail_rows p.mail owed_by lanes.rows p.mail_new p.mail_closes p.some_lanes
      lanes_ran.rows_are

  module _ (boxes : WorkerColumns S) (worked : HaveWorkedAll spools plan.workers boxes) (mail_closed : List (Sent Note))
      (closes : Closes plan.mail lanes.rows mail_closed) where
    boxes_ran : HaveWorked site spools (channels_of p.slips) boxes_given boxes
    boxes_ran =
        worked site (channels_of p.slips) boxes_given p.workers_are p.mail_new.counts
        (subst (λ n. AreRows n (channels_of p.slips) none p.slip_rows) (sym p.mail_new.counts) p.slips_new.rows_are)

    slip_rows_are : AreRows threads (channels_of p.slips) boxes_ran.gave boxes.rows
    slip_rows_are = subst (λ n. AreRows n (channels_of p.slips) boxes_ran.gave boxes.rows) p.mail_new.counts boxes_ran.rows_are

    mail_shut : AreClosedWith (length handed.visits) (channels_of p.mail) owed_by mail_closed
    mail_shut =
        let lanes_are : plan.mail.lanes ≡ length handed.visits = ap (λ (s : Shape). s.lanes) p.mail_closes in
        subst (λ n. AreClosedWith n (channels_of p.mail) owed_by mail_closed) lanes_are
        (closes (channels_of p.mail) owed_by (subst (λ n. AreRows n (channels_of p.mail) owed_by lanes.rows) (sym lanes_are) lanes_ran.rows_are))

    pub mail_may_settle : AllZip CanSettle boxes.inboxes mail_closed
    mail_may_settle =
        can_settle (length handed.visits) threads owed_by p.mail_rows p.mail boxes.inboxes mail_closed p.mail_new
        (boxes_ran.as_many.2 ∙ p.mail_new.counts) (λ t x y e f. let took = boxes_ran.took_all t x y e f in (took.channel, took.lanes)) mail_shut

    pub slips_may_close : MayClose plan.slips boxes.rows
    slips_may_close =
        may_close threads (length handed.visits) plan.slips p.slip_rows p.slips boxes_ran.gave boxes.rows p.slips_new p.slips_close
        (some_threads (length handed.spools) p.some_boxes) slip_rows_are

    module _ (slips_closed : List (Sent Slip)) (slips_close : Closes plan.slips boxes.rows slips_closed) where
      slips_shut : AreClosedWith threads (channels_of p.slips) boxes_ran.gave slips_closed
      slips_shut =
          let threads_are : plan.slips.lanes ≡ threads = ap (λ (s : Shape). s.lanes) p.slips_close in
          subst (λ n. AreClosedWith n (channels_of p.slips) boxes_ran.gave slips_closed) threads_are
          (slips_close (channels_of p.slips) boxes_ran.gave
          (subst (λ n. AreRows n (channels_of p.slips) boxes_ran.gave boxes.rows) (sym threads_are) slip_rows_are))

      pub slips_may_settle : AllZip CanSettle lanes.inboxes slips_closed
      slips_may_settle =
          can_settle threads (length handed.visits) boxes_ran.gave p.slip_rows p.slips lanes.inboxes slips_closed p.slips_new lanes_ran.as_many.2
          (λ k x y e f. let t = lanes_ran.heard k x y e f in (t.channel, t.lanes)) slips_shut

      pub run_is : (blocks slots : ℕ) → HaveTimes lanes.rows mail_closed → HaveTimes boxes.rows slips_closed
          → AllZip (IsSettled (λ (n : Note). n.txn.lane)) boxes.inboxes mail_closed
          → AllZip (IsSettled (λ (s : Slip). worker_thread s.worker)) lanes.inboxes slips_closed
          → HasRun site (May clock) view spools handed
          (record {
            visits = lanes.lent;
            spools = boxes.lent;
            conversations = lanes.tallies;
            tallies = boxes.tallies;
            blocks = blocks;
            slots = slots;
          })
      run_is blocks slots mail_times slips_times mail_settled slips_settled =
          has_run site (May clock) view spools lanes_given lanes boxes_given boxes mail_closed slips_closed p.mail_new p.slips_new lanes_ran boxes_ran
          mail_shut slips_shut mail_times slips_times mail_settled slips_settled refl p.each_box p.some_boxes blocks slots
