-- The lanes' reports, taken together.
use Rattle.std.proofs.Common.{◌≡◌, ℕ, zero, suc, ◌+◌, ◌<◌, Bool, false, List, [], ◌∷◌, ◌++◌, length, append-nil, refl, sym, ap, ◌∙◌, subst, arith, Option}
use Rattle.std.proofs.Common.{Some, None, inl, inr}
use Rattle.std.specs.Prelude.{slice_get, flat_map}
use Rattle.std.specs.List.{AllZip}
use Rattle.std.proofs.lemmas.Option.{slice_get_within}
use Rattle.mail_world.specs.declared.Note.{Note}
use Rattle.mail_world.specs.declared.Slip.{Slip}
use Rattle.mail_world.specs.Site.{Site}
use Rattle.mail_world.specs.Lists.{copies, transactions}
use Rattle.mail_world.specs.Slips.{IsMerged}
use Rattle.mail_runs.specs.Timed.{TimedDeed, whats}
use Rattle.mail_runs.specs.Ordered.{AreExchanges}
use Rattle.mail_post.specs.InTime.{AreInTime}
use Rattle.mail_post.specs.Channel.{Channel, Sender, Inbox, taken}
use Rattle.mail_post.proofs.Offered.{none_gone}
use Rattle.lmtp_lane.specs.LaneExchange.{for_thread, lane_sorts}
use Rattle.mail_world.specs.declared.limits.TheConstants.{READ_LIMIT, RECIPIENT_LIMIT}
use Rattle.lmtp_talk.specs.Entries.{Entry}
use Rattle.lmtp_talk.specs.Served.{terms}
use Rattle.lmtp_lane.specs.LaneRun.{LaneBack, lane_end, HasServed}
use Rattle.lmtp_lane.specs.Visits.{VisitsTold, conversations_of}
use Rattle.lmtp_threads.specs.Works.{VisitsView, LaneWork, LaneTold}
use Rattle.lmtp_threads.specs.Channels.{AreRows, none, HasGiven}
use Rattle.lmtp_threads.specs.Columns.{ReportParts, HoldReports}
use Rattle.lmtp_threads.specs.Reports.{LaneColumns, lane_parts}
use Rattle.lmtp_threads.specs.Tasks.{LaneTask, lane_task, lane_tasks, lane_before, LanesGiven, IsServedLane, HaveServed, TookSlips, LaneDid}
use Rattle.lmtp_threads.proofs.Pairs.{AllZip-length, picks, picked}
use Rattle.lmtp_threads.proofs.ChannelRows.{same_at, at_each, zip_at, rows_given}
use Rattle.lmtp_threads.proofs.Filling.{each_fails, at_column, column_count}

abbrev pub lanes_given : {V : Type 0} → List V → List (List (Sender Note)) → List (Inbox Slip) → LanesGiven V
lanes_given visits rows inboxes = record { visits = visits; rows = rows; inboxes = inboxes }

module _ {V C : Type 0} where
  -- the task of lane i + k, and what it was made of
  pub record TaskAt (site : Site) (clock : C) (i : ℕ) (given : LanesGiven V) (k : ℕ) (task : LaneTask V C) : Type 0 where
    pub visit : V
    pub row : List (Sender Note)
    pub inbox : Inbox Slip
    pub visit_is : slice_get given.visits k ≡ Some visit
    pub row_is : slice_get given.rows k ≡ Some row
    pub inbox_is : slice_get given.inboxes k ≡ Some inbox
    pub is : task ≡ lane_task site clock (i + k) visit row inbox

  pub task_at : (site : Site) (clock : C) (i : ℕ) (visits : List V) (rows : List (List (Sender Note))) (inboxes : List (Inbox Slip))
      (k : ℕ) (task : LaneTask V C) → slice_get (lane_tasks site clock i visits rows inboxes) k ≡ Some task
      → TaskAt site clock i (lanes_given visits rows inboxes) k task
  task_at site clock i [] rows inboxes k task e = let bad : ◌≡◌ {A = Option (LaneTask V C)} None (Some task) = e in absurd (cc)
  task_at site clock i (v ∷ vs) [] inboxes k task e = let bad : ◌≡◌ {A = Option (LaneTask V C)} None (Some task) = e in absurd (cc)
  task_at site clock i (v ∷ vs) (row ∷ rows) [] k task e = let bad : ◌≡◌ {A = Option (LaneTask V C)} None (Some task) = e in absurd (cc)
  task_at site clock i (v ∷ vs) (row ∷ rows) (inbox ∷ inboxes) zero task e =
      let s : ◌≡◌ {A = Option (LaneTask V C)} (Some (lane_task site clock i v row inbox)) (Some task) = e in
      let t : lane_task site clock i v row inbox ≡ task = cc in
      let n : i ≡ i + 0 = omega arith in record {
        visit = v;
        row = row;
        inbox = inbox;
        visit_is = refl;
        row_is = refl;
        inbox_is = refl;
        is = sym t ∙ ap (λ j. lane_task site clock j v row inbox) n;
      }
  task_at site clock i (v ∷ vs) (row ∷ rows) (inbox ∷ inboxes) (suc k) task e =
      let p = task_at site clock (i + 1) vs rows inboxes k task e in
      let n : i + 1 + k ≡ i + suc k = omega arith in record {
        visit = p.visit;
        row = p.row;
        inbox = p.inbox;
        visit_is = p.visit_is;
        row_is = p.row_is;
        inbox_is = p.inbox_is;
        is = p.is ∙ ap (λ j. lane_task site clock j p.visit p.row p.inbox) n;
      }

  pub tasks_count : (site : Site) (clock : C) (i : ℕ) (visits : List V) (rows : List (List (Sender Note))) (inboxes : List (Inbox Slip))
      → length rows ≡ length visits → length inboxes ≡ length visits
      → length (lane_tasks site clock i visits rows inboxes) ≡ length visits
  tasks_count site clock i [] rows inboxes a b = refl
  tasks_count site clock i (v ∷ vs) [] inboxes a b = absurd (omega arith)
  tasks_count site clock i (v ∷ vs) (row ∷ rows) [] a b = absurd (omega arith)
  tasks_count site clock i (v ∷ vs) (row ∷ rows) (inbox ∷ inboxes) a b =
      ap suc (tasks_count site clock (i + 1) vs rows inboxes (omega arith) (omega arith))

-- what a lane did, and when
pub record LaneDone : Type 0 where
  pub work : LaneWork
  pub deeds : List TimedDeed

-- nothing was merged in
merged_none : (came heard : List Slip) → IsMerged came [] heard → came ≡ heard
merged_none came [] h = h.0
merged_none came (slip ∷ heard) (inl h) = h.1 ∙ ap (λ l. slip ∷ l) (merged_none h.0 heard h.2)
merged_none came (slip ∷ heard) (inr h) = let bad : [] ≡ slip ∷ h.0 = h.1 in absurd (cc)

-- what is told of a lane that handed this back
abbrev told_by : VisitsTold → Option (List Entry) → LaneBack → LaneTold
told_by before earlier r = record {
  before = before;
  after = r.finished;
  earlier = earlier;
  later = r.told;
  over = r.over;
  count = r.conversations;
}

module _ {V C : Type 0} (May : C → ℕ → Type 0) (view : VisitsView V) where
  abbrev pub LaneOk : LaneTask V C → LaneBack → Type 0
  LaneOk j r = HasServed (terms j.site READ_LIMIT) (May j.clock) (view.MayGive j.visits) (lane_before view j) (lane_end j.lane r)

  abbrev parts : ReportParts LaneBack (Sender Note) (Inbox Slip) V ℕ
  parts = lane_parts view

  abbrev lane_done : (j : LaneTask V C) (r : LaneBack) → LaneOk j r → LaneDone
  lane_done j r h = record { work = record { visits = h.visits; heard = h.heard }; deeds = h.exchanged.done.deeds }

  abbrev idle : LaneDone
  idle = record { work = record { visits = []; heard = [] }; deeds = [] }

  module _ (site : Site) (clock : C) (channels : List (Channel Note)) (given : LanesGiven V) (reports : List LaneBack)
      (columns : LaneColumns V) (of : HoldReports parts reports columns)
      (inboxes_count : length given.inboxes ≡ length given.visits) (are : AreRows (length given.visits) channels none given.rows)
      (all : AllZip LaneOk (lane_tasks site clock 0 given.visits given.rows given.inboxes) reports)
      (sound : columns.gone ≡ false) where
    abbrev tasks : List (LaneTask V C)
    tasks = lane_tasks site clock 0 given.visits given.rows given.inboxes

    abbrev dones : ℕ → LaneDone
    dones = picks LaneOk lane_done idle tasks reports all

    abbrev works : ℕ → LaneWork
    works k = (dones k).work

    abbrev deeds_of : ℕ → List TimedDeed
    deeds_of k = (dones k).deeds

    count : length tasks ≡ length given.visits
    count = tasks_count site clock 0 given.visits given.rows given.inboxes are.count inboxes_count

    reports_count : length reports ≡ length given.visits
    reports_count = sym (AllZip-length LaneOk tasks reports all) ∙ count

    -- what is known of lane k
    record LaneIs (k : ℕ) : Type 0 where
      visit : V
      row : List (Sender Note)
      inbox : Inbox Slip
      report : LaneBack
      visit_is : slice_get given.visits k ≡ Some visit
      row_is : slice_get given.rows k ≡ Some row
      inbox_is : slice_get given.inboxes k ≡ Some inbox
      report_is : slice_get reports k ≡ Some report
      served : IsServedLane site (May clock) (view.MayGive visit) k (works k) (told_by (view.finished visit) (view.told visit) report)
      given_out : HasGiven (λ t. for_thread t (flat_map (copies k) (transactions site 0 (conversations_of (works k).visits)))) row report.senders
      heard : TookSlips (works k).heard inbox report.slips
      in_time : AreInTime lane_sorts (deeds_of k) (record { senders = row; inbox = inbox }) (record { senders = report.senders; inbox = report.slips })
      did : LaneDid (flat_map (copies k) (transactions site 0 (conversations_of (works k).visits))) (works k).heard (deeds_of k)
      in_turn : AreExchanges RECIPIENT_LIMIT k (transactions site 0 (conversations_of (works k).visits)) (whats (deeds_of k))

    lane_is : (k : ℕ) → k < length given.visits → LaneIs k
    lane_is k below =
        let p = picked LaneOk lane_done idle tasks reports all k (omega (arith, count, below)) in
        let t = task_at site clock 0 given.visits given.rows given.inboxes k p.left p.left_is in
        let h = p.holds in
        let no = at_each (λ r. r.gone ≡ false) reports (each_fails (λ r. r.gone) reports (sym of.gone ∙ sound)) k p.right p.right_is in
        let n : 0 + k ≡ k = omega arith in
        let is : p.left ≡ lane_task site clock k t.visit t.row t.inbox = t.is ∙ ap (λ j. lane_task site clock j t.visit t.row t.inbox) n in
        let x = h.exchanged in
        let none_own = x.sound no in
        let notes_due : flat_map (copies p.left.lane) (transactions p.left.site 0 (conversations_of h.visits)) ≡ x.accepted =
        x.first ∙ (ap (λ l. x.accepted ++ l) (x.all (x.whole no)) ∙ append-nil x.accepted) in
        let Served : LaneTask V C → LaneWork → Type 0 = λ j w.
        IsServedLane j.site (May j.clock) (view.MayGive j.visits) j.lane w (told_by (view.finished j.visits) (view.told j.visits) p.right) in
        let Given : LaneTask V C → LaneDone → Type 0 =
        λ j d. HasGiven (λ t. for_thread t (flat_map (copies j.lane) (transactions j.site 0 (conversations_of d.work.visits)))) j.senders p.right.senders in
        let Heard : LaneTask V C → LaneDone → Type 0 = λ j d. TookSlips d.work.heard j.slips (p.right.slips) in
        let InTime : LaneTask V C → LaneDone → Type 0 =
        λ j d. AreInTime lane_sorts d.deeds (record { senders = j.senders; inbox = j.slips }) (record { senders = p.right.senders; inbox = p.right.slips }) in
        let Did : LaneTask V C → LaneDone → Type 0 =
        λ j d. LaneDid (flat_map (copies j.lane) (transactions j.site 0 (conversations_of d.work.visits))) d.work.heard d.deeds in
        let InTurn : LaneTask V C → LaneDone → Type 0 = λ j d.
        AreExchanges RECIPIENT_LIMIT j.lane (transactions j.site 0 (conversations_of d.work.visits)) (whats d.deeds) in
        let came : h.came ≡ h.heard = merged_none h.came h.heard (subst (λ l. IsMerged h.came l h.heard) none_own h.exchanged.merged) in
        let served : Served p.left (lane_done p.left p.right h).work = record {
          visited = h.visited;
          logged = h.logged;
          ended = h.ended no;
          counts = h.counts;
          verdicts = h.verdicts;
          moments = h.moments;
          answered = h.answered;
        } in
        let given_out : Given p.left (lane_done p.left p.right h) = record {
          as_many = h.exchanged.offered.as_many;
          each = λ t before after e f.
              let o = x.offered.each t before after e f in
              (o.channel, o.number, o.sent ∙ ap (λ l. before.sent ++ for_thread t l) (sym notes_due), none_gone (p.right.senders) t after (x.whole no) f);
        } in
        let heard : Heard p.left (lane_done p.left p.right h) = record {
          channel = h.exchanged.channel;
          lanes = h.exchanged.lanes;
          took = h.exchanged.took ∙ ap (λ l. taken p.left.slips ++ l) came;
        } in
        let did : Did p.left (lane_done p.left p.right h) = record {
          only = x.done.only;
          gave = x.done.gave ∙ sym notes_due;
          heard = x.done.heard ∙ came;
        } in record {
          visit = t.visit;
          row = t.row;
          inbox = t.inbox;
          report = p.right;
          visit_is = t.visit_is;
          row_is = t.row_is;
          inbox_is = t.inbox_is;
          report_is = p.right_is;
          served = subst (λ j. Served j (works k)) is (subst (λ d. Served p.left d.work) (sym p.picked) served);
          given_out = subst (λ j. Given j (dones k)) is (subst (λ d. Given p.left d) (sym p.picked) given_out);
          heard = subst (λ j. Heard j (dones k)) is (subst (λ d. Heard p.left d) (sym p.picked) heard);
          did = subst (λ j. Did j (dones k)) is (subst (λ d. Did p.left d) (sym p.picked) did);
          in_turn = subst (λ j. InTurn j (dones k)) is (subst (λ d. InTurn p.left d) (sym p.picked) (h.in_turn no));
          in_time = subst (λ j. InTime j (dones k)) is (subst (λ d. InTime p.left d) (sym p.picked) x.done.in_time);
        }

    pub have_served : HaveServed site (May clock) view channels given columns
    have_served = record {
      works = works;
      as_many = (
        sym (AllZip-length parts.TellsOf reports columns.lent of.lent) ∙ reports_count,
        column_count parts.tally reports columns.tallies of.tallies ∙ reports_count,
        column_count parts.inbox reports columns.inboxes of.inboxes ∙ reports_count,
      );
      served = λ k count old new a b c.
          let l = lane_is k (slice_get_within given.visits k old a) in
          let tells = zip_at parts.TellsOf reports columns.lent of.lent k l.report new l.report_is b in
          let old_is : l.visit ≡ old = same_at given.visits k l.visit old l.visit_is a in
          let count_is : l.report.conversations ≡ count =
          same_at columns.tallies k l.report.conversations count (at_column parts.tally reports columns.tallies of.tallies k l.report l.report_is) c in
          let Served : V → VisitsTold → Option (List Entry) → Bool → ℕ → Type 0 = λ x after later over m.
          IsServedLane site (May clock) (view.MayGive x) k (works k) (record {
            before = view.finished x;
            after = after;
            earlier = view.told x;
            later = later;
            over = over;
            count = m;
          }) in
          subst (λ x. Served x (view.finished new) (view.told new) (view.over new) count) old_is
          (subst (λ m. Served l.visit (view.finished new) (view.told new) (view.over new) m) count_is
          (subst (λ t. Served l.visit (view.finished new) t (view.over new) l.report.conversations) tells.2
          (subst (λ o. Served l.visit (view.finished new) l.report.told o l.report.conversations) tells.1
          (subst (λ f. Served l.visit f l.report.told l.report.over l.report.conversations) tells.0 l.served))));
      deeds = deeds_of;
      did = λ k below. (lane_is k below).did;
      in_turn = λ k below. (lane_is k below).in_turn;
      in_time = λ k below.
          let l = lane_is k below in
          record {
            old = record { senders = l.row; inbox = l.inbox };
            new = record { senders = l.report.senders; inbox = l.report.slips };
            row_was = l.row_is;
            row_is = at_column parts.row reports columns.rows of.rows k l.report l.report_is;
            inbox_was = l.inbox_is;
            inbox_is = at_column parts.inbox reports columns.inboxes of.inboxes k l.report l.report_is;
            are = l.in_time;
          };
      rows_are = rows_given (length given.visits) channels
          (λ k t. for_thread t (flat_map (copies k) (transactions site 0 (conversations_of (works k).visits)))) given.rows columns.rows are
          (column_count parts.row reports columns.rows of.rows ∙ reports_count)
          (λ k row row' a b.
          let l = lane_is k (omega (arith, are.count, slice_get_within given.rows k row a)) in
          let new_is : l.report.senders ≡ row' =
          same_at columns.rows k l.report.senders row' (at_column parts.row reports columns.rows of.rows k l.report l.report_is) b in
          let old_is : l.row ≡ row = same_at given.rows k l.row row l.row_is a in
          let Given : List (Sender Note) → List (Sender Note) → Type 0 =
          λ x y. HasGiven (λ t. for_thread t (flat_map (copies k) (transactions site 0 (conversations_of (works k).visits)))) x y in
          subst (λ y. Given row y) new_is (subst (λ x. Given x l.report.senders) old_is l.given_out));
      heard = λ k old new a b.
          let l = lane_is k (omega (arith, inboxes_count, slice_get_within given.inboxes k old a)) in
          let new_is : l.report.slips ≡ new =
          same_at columns.inboxes k l.report.slips new (at_column parts.inbox reports columns.inboxes of.inboxes k l.report l.report_is) b in
          let old_is : l.inbox ≡ old = same_at given.inboxes k l.inbox old l.inbox_is a in
          subst (λ x. TookSlips (works k).heard old x) new_is (subst (λ x. TookSlips (works k).heard x l.report.slips) old_is l.heard);
    }
