-- What was settled of the channels, and the run that follows from it.
use Rattle.std.proofs.Common.{◌≡◌, ℕ, ◌<◌, ◌+◌, List, length, refl, sym, ap, ◌∙◌, subst, arith, Some}
use Rattle.std.specs.Prelude.{flat_map, slice_get}
use Rattle.std.specs.List.{AllZip, AllByRecursion}
use Rattle.std.proofs.lemmas.List.{length-map}
use Rattle.std.proofs.lemmas.Option.{slice_get_within}
use Rattle.mail_world.specs.declared.Note.{Note}
use Rattle.mail_world.specs.declared.Slip.{Slip}
use Rattle.mail_world.specs.Conversation.{Conversation}
use Rattle.mail_world.specs.Prefixes.{IsPrefix}
use Rattle.mail_world.specs.Site.{Site}
use Rattle.mail_world.specs.Slips.{of_worker}
use Rattle.mail_world.specs.Lists.{copies, copies_owed, of_lane, due, transactions, OutcomesAreAnswers}
use Rattle.mail_post.specs.Channel.{Sender, Inbox, Sent}
use Rattle.mail_post.specs.WorkerThreads.{worker_thread, threads_for}
use Rattle.mail_runs.specs.Courses.{outcomes_in}
use Rattle.mail_runs.specs.Known.{is_heard, is_taken}
use Rattle.mail_runs.specs.Timed.{times, those, gives_to, tells_to}
use Rattle.box_worker.specs.Told.{owed_to}
use Rattle.lmtp_lane.specs.LaneExchange.{for_thread}
use Rattle.lmtp_lane.specs.Visits.{conversations_of}
use Rattle.lmtp_threads.specs.OwnChannel.{room_beside}
use Rattle.lmtp_threads.specs.Works.{VisitsView, SpoolsView}
use Rattle.lmtp_house.specs.Handed.{HandedIn, HandedBack, handed_in}
use Rattle.lmtp_house.specs.House.{HasRun}
use Rattle.lmtp_threads.specs.Channels.{channels_of, AreNewChannels, AreClosedWith, HaveTimes, CanSettle, IsSettled}
use Rattle.lmtp_threads.specs.Reports.{LaneColumns, WorkerColumns}
use Rattle.lmtp_threads.specs.Tasks.{LanesGiven, WorkersGiven, HaveServed, HaveWorked}
use Rattle.lmtp_house.proofs.AnsweredAll.{outcomes_are_answers}
use Rattle.lmtp_house.proofs.HeardAll.{heard_all}
use Rattle.lmtp_house.proofs.NamedOnce.{named_once}
use Rattle.lmtp_house.proofs.RunOfModel.{HaveExchanged, is_left_alone}
use Rattle.lmtp_house.proofs.ManyLanes.{HaveDeeds, all_lanes_run}
use Rattle.lmtp_house.proofs.HouseTimes.{have_deeds}
use Rattle.lmtp_house.proofs.Taken.{prefix_each, taken_below}
use Rattle.lmtp_threads.proofs.ChannelRows.{at, at_map, at_zip}

due_is : (site : Site) (k b : ℕ) (cs : List Conversation) → due site k b cs ≡ copies_owed k b (transactions site 0 cs)
unfolding due
due_is site k b cs = refl

module _ {M : Type 0} where
  -- receivers that are still those of before may be settled with their closed channels
  pub can_settle : {capacity : ℕ} (n count : ℕ) (sent : ℕ → ℕ → List M) (rows : List (List (Sender M))) (inboxes after : List (Inbox M))
      (closed : List (Sent M)) → AreNewChannels capacity n count rows inboxes → length after ≡ count
      → ((b : ℕ) (x y : Inbox M) → slice_get inboxes b ≡ Some x → slice_get after b ≡ Some y → (y.channel ≡ x.channel) × (y.lanes ≡ x.lanes))
      → AreClosedWith n (channels_of inboxes) sent closed → AllZip CanSettle after closed
  can_settle n count sent rows inboxes after closed new after_count same are =
      at_zip CanSettle after closed (after_count ∙ (sym new.counts ∙ (sym (length-map inboxes (λ (i : Inbox M). i.channel)) ∙ sym are.count))) (λ b y c e f.
      let x = at inboxes b (omega (arith, new.counts, after_count, slice_get_within after b y e)) in
      let s = same b x.value y x.is e in
      let w = are.each b x.value.channel c (at_map (λ (i : Inbox M). i.channel) inboxes b x.value x.is) f in
      let fresh = new.inboxes_are b x.value x.is in record {
        channel = s.0 ∙ sym w.channel_is;
        lanes = w.count ∙ sym (s.1 ∙ ap (λ (i : Inbox M). i.lanes) fresh);
      })

module _ {V S : Type 0} {capacity room : ℕ} (site : Site) (May : ℕ → Type 0) (view : VisitsView V) (spools : SpoolsView S)
    (old_lanes : LanesGiven V) (new_lanes : LaneColumns V) (old_boxes : WorkersGiven S) (new_boxes : WorkerColumns S)
    (mail_closed : List (Sent Note)) (slips_closed : List (Sent Slip))
    (mail_new : AreNewChannels capacity (length old_lanes.visits) (threads_for (length old_boxes.spools)) old_lanes.rows old_boxes.inboxes)
    (slips_new : AreNewChannels room (threads_for (length old_boxes.spools)) (length old_lanes.visits) old_boxes.rows old_lanes.inboxes)
    (lanes : HaveServed site May view (channels_of old_boxes.inboxes) old_lanes new_lanes)
    (boxes : HaveWorked site spools (channels_of old_lanes.inboxes) old_boxes new_boxes)
    (mail_shut : AreClosedWith (length old_lanes.visits) (channels_of old_boxes.inboxes)
    (λ k t. for_thread t (flat_map (copies k) (transactions site 0 (conversations_of (lanes.works k).visits)))) mail_closed)
    (slips_shut : AreClosedWith (threads_for (length old_boxes.spools)) (channels_of old_lanes.inboxes) boxes.gave slips_closed)
    (mail_times : HaveTimes new_lanes.rows mail_closed) (slips_times : HaveTimes new_boxes.rows slips_closed)
    (mail_settled : AllZip (IsSettled (λ (n : Note). n.txn.lane)) new_boxes.inboxes mail_closed)
    (slips_settled : AllZip (IsSettled (λ (s : Slip). worker_thread s.worker)) new_lanes.inboxes slips_closed)
    (room_is : old_boxes.room ≡ room_beside (length old_boxes.spools) (length old_lanes.visits))
    (each_box : length old_boxes.spools ≡ length site.boxes) (some_boxes : 0 < length old_boxes.spools) (blocks slots : ℕ) where
  abbrev owed_by : ℕ → ℕ → List Note
  owed_by k b = due site k b (conversations_of (lanes.works k).visits)

  abbrev owed_slips : ℕ → ℕ → List Slip
  owed_slips b k = owed_to b (outcomes_in (boxes.works b).turns) k (boxes.works b).taken

  -- how many copies may wait for a mailbox
  abbrev waiting : ℕ
  waiting = capacity + room_beside (length old_boxes.spools) (length old_lanes.visits)

  deeds_told : HaveDeeds site (length old_lanes.visits) (length old_boxes.spools) waiting lanes.works boxes.works
  deeds_told =
      subst (λ more. HaveDeeds site (length old_lanes.visits) (length old_boxes.spools) (capacity + more) lanes.works boxes.works) room_is
      (have_deeds site May view spools old_lanes new_lanes old_boxes new_boxes mail_closed slips_closed mail_new slips_new lanes boxes
      mail_shut slips_shut mail_times slips_times mail_settled slips_settled)

  -- what is known of mailbox b
  record BoxKnown (b : ℕ) : Type 0 where
    each : (k : ℕ) → k < length old_lanes.visits → of_lane k (boxes.works b).taken ≡ owed_by k b
    only : AllByRecursion (λ (note : Note). note.txn.lane < length old_lanes.visits) (boxes.works b).taken

  box_known : (b : ℕ) → b < length old_boxes.spools → BoxKnown b
  box_known b below = record {
    each = λ k low. deeds_told.took k b low below ∙ sym (due_is site k b (conversations_of (lanes.works k).visits));
    only = taken_below (λ (n : Note). n.txn.lane) (length old_lanes.visits) waiting
        (λ k. copies_owed k b (transactions site 0 (conversations_of (lanes.works k).visits)))
        (λ k. times (those (gives_to b) (deeds_told.lane_deeds k))) (boxes.works b).taken (times (those is_taken (deeds_told.worker_deeds b)))
        (deeds_told.mail b below);
  }

  -- what is known of lane k
  record LaneKnown (k : ℕ) : Type 0 where
    each : (b : ℕ) → b < length old_boxes.spools → IsPrefix (of_worker b (lanes.works k).heard) (owed_slips b k)
    only : AllByRecursion (λ (slip : Slip). slip.worker < length old_boxes.spools) (lanes.works k).heard

  lane_known : (k : ℕ) → k < length old_lanes.visits → LaneKnown k
  lane_known k below =
      let c = deeds_told.slips k below in
      let told_at : ℕ → List ℕ = λ b. times (those (tells_to k) (deeds_told.worker_deeds b)) in
      let heard_at : List ℕ = times (those is_heard (deeds_told.lane_deeds k)) in record {
        each = prefix_each (λ (s : Slip). s.worker) (length old_boxes.spools) (deeds_told.slip_room k) (λ b. owed_slips b k) told_at
            (lanes.works k).heard heard_at c;
        only = taken_below (λ (s : Slip). s.worker) (length old_boxes.spools) (deeds_told.slip_room k) (λ b. owed_slips b k) told_at
            (lanes.works k).heard heard_at c;
      }

  -- the lane's outcomes are those of all that it heard
  lane_outcomes : (k : ℕ) → k < length old_lanes.visits → OutcomesAreAnswers site k (lanes.works k).heard (conversations_of (lanes.works k).visits)
  lane_outcomes k below =
      let x = at old_lanes.visits k below in
      let y = at new_lanes.lent k (omega (arith, lanes.as_many.0, below)) in
      let c = at new_lanes.tallies k (omega (arith, lanes.as_many.1, below)) in
      let l = lane_known k below in
      let cs = conversations_of (lanes.works k).visits in
      outcomes_are_answers site k (lanes.works k).heard cs
      (named_once site k (length old_boxes.spools) cs (lanes.works k).heard boxes.works l.only l.each (λ b box. (box_known b box).each k below))
      (lanes.served k c.value x.value y.value x.is y.is c.is).answered

  abbrev handed : HandedIn V S
  handed = handed_in old_lanes.visits old_boxes.spools capacity old_boxes.quotas

  abbrev back : HandedBack V S
  back = record {
    visits = new_lanes.lent;
    spools = new_boxes.lent;
    conversations = new_lanes.tallies;
    tallies = new_boxes.tallies;
    blocks = blocks;
    slots = slots;
  }

  exchanged : HaveExchanged site spools lanes.works boxes.works handed back
  exchanged = record {
    as_many = (boxes.as_many.0, boxes.as_many.1);
    stored = boxes.stored;
    owed = λ k b below box. (box_known b box).each k below;
    owed_only = λ b box. (box_known b box).only;
    told = λ k b below box.
        let l = lane_known k below in
        heard_all site k (length old_boxes.spools) (conversations_of (lanes.works k).visits) (lanes.works k).heard boxes.works l.only l.each
        (λ c low. (box_known c low).each k below) (lane_outcomes k below) b box;
    told_only = λ k below. (lane_known k below).only;
  }

  pub has_run : HasRun site May view spools handed back
  has_run = record {
    lanes = lanes.works;
    boxes = boxes.works;
    as_many_lanes = (lanes.as_many.0, lanes.as_many.1);
    as_many_boxes = exchanged.as_many;
    served = λ k count old new a b c.
        let s = lanes.served k count old new a b c in
        record {
          visited = s.visited;
          logged = s.logged;
          ended = s.ended;
          counts = s.counts;
          verdicts = s.verdicts;
          moments = s.moments;
          answered = lane_outcomes k (slice_get_within old_lanes.visits k old a);
        };
    stored = exchanged.stored;
    observed = boxes.observed;
    owed = exchanged.owed;
    owed_only = exchanged.owed_only;
    told = exchanged.told;
    told_only = exchanged.told_only;
    is_run = all_lanes_run site spools lanes.works boxes.works handed back exchanged each_box some_boxes deeds_told;
    alone = is_left_alone site spools lanes.works boxes.works handed back exchanged;
  }
