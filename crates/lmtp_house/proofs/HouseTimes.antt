-- The deeds of lanes and of mailboxes' workers, once all threads have ended and their channels are settled.
use Rattle.std.proofs.Common.{◌≡◌, ◌==◌, ℕ, ◌<◌, ◌+◌, List, [], ◌∷◌, ◌++◌, length, map, get_or, Some, refl, sym, ap, ◌∙◌, subst, arith}
use Rattle.std.specs.Prelude.{flat_map, slice_get}
use Rattle.std.specs.List.{AllZip}
use Rattle.std.proofs.lemmas.List.{length-map}
use Rattle.std.proofs.lemmas.Option.{slice_get_within, get_or_from_slice_get}
use Rattle.mail_world.specs.declared.Note.{Note}
use Rattle.mail_world.specs.declared.Slip.{Slip}
use Rattle.mail_world.specs.Site.{Site}
use Rattle.mail_world.specs.Lists.{Transaction, copies, copies_owed, of_lane, transactions}
use Rattle.mail_runs.specs.Courses.{outcomes_in}
use Rattle.mail_runs.specs.Known.{times_of, is_heard, is_taken}
use Rattle.mail_runs.specs.Timed.{TimedDeed, times, those, gives_to, tells_to}
use Rattle.mail_runs.proofs.ByTime.{filter_twice}
use Rattle.mail_post.specs.Channel.{Sender, Inbox, Sent, taken}
use Rattle.mail_post.specs.declared.channel.Gone.TheVariants.{Closed}
use Rattle.mail_post.specs.InTime.{Ends, Sorts}
use Rattle.mail_post.specs.Parcels.{of}
use Rattle.mail_post.specs.WorkerThreads.{worker_thread, threads_for}
use Rattle.box_worker.specs.Shares.{for_box, by_box, sender_for, senders_for, inbox_for}
use Rattle.box_worker.specs.PutOff.{roomier}
use Rattle.box_worker.specs.Told.{owed_to}
use Rattle.box_worker.specs.TurnTimes.{worker_sorts}
use Rattle.box_worker.proofs.Gives.{gave_within}
use Rattle.box_worker.proofs.Within.{of_within}
use Rattle.lmtp_lane.specs.LaneExchange.{for_thread, gives_to_thread, lane_sorts}
use Rattle.lmtp_lane.specs.Visits.{conversations_of}
use Rattle.lmtp_lane.proofs.WorkerThreads.{thread_within}
use Rattle.lmtp_threads.specs.Works.{VisitsView, SpoolsView}
use Rattle.lmtp_threads.specs.Channels.{channels_of, lane_at, AreRows, AreNewChannels, AreClosedWith, HaveTimes, IsSettled}
use Rattle.lmtp_threads.specs.OwnChannel.{IsOwnChannel}
use Rattle.lmtp_threads.proofs.ChannelRows.{at, at_map, same_at, source}
use Rattle.lmtp_threads.specs.Reports.{LaneColumns, WorkerColumns}
use Rattle.lmtp_threads.specs.Tasks.{LanesGiven, WorkersGiven, IsInTime, IsBoxInTime, HaveServed, HaveWorked}
use Rattle.lmtp_house.proofs.BoxMail.{mail_for}
use Rattle.lmtp_house.proofs.BoxSlips.{by_thread, slips_by}
use Rattle.lmtp_house.proofs.Bridge.{AreFresh, HasDoneAll, has_ended, IsSettledAs, said_otherwise}
use Rattle.lmtp_house.proofs.BridgeRows.{AreSettledAs, settled_as}
use Rattle.lmtp_house.proofs.ManyLanes.{HaveDeeds}
use Rattle.lmtp_house.proofs.Taken.{took_each}

-- the ends of a thread over new channels
module _ {A B : Type 0} {capacity room : ℕ} (n m count : ℕ) (rows rows' : List (List (Sender A)))
    (others : List (List (Sender B))) (ins : List (Inbox A)) (inboxes inboxes' : List (Inbox B))
    (given : AreNewChannels capacity n count rows ins) (heard : AreNewChannels room m n others inboxes) (sorts : Sorts) (k : ℕ) (deeds : List TimedDeed)
    (d : IsInTime sorts k rows rows' inboxes inboxes' deeds) where
  ended : HasDoneAll sorts deeds d.new
  ended =
      let fresh : AreFresh d.old = record {
        senders = λ b sender is. given.timeless k b d.old.senders sender d.row_was is;
        inbox = ap (λ (i : Inbox B). i.took_at) (heard.inboxes_are k d.old.inbox d.inbox_was);
      } in
      has_ended sorts deeds d.old d.new fresh d.are

no_times : (b : ℕ) (slips : List Slip) → times_of by_box b slips [] ≡ []
no_times b [] = refl
no_times b (slip ∷ slips) = refl

-- a mailbox's ends, of its thread's: its own receiver beside its senders
abbrev ends_with : ℕ → List (Sender Slip) → Inbox Note → Ends Slip Note
ends_with b senders inbox = record { senders = senders_for b senders; inbox = inbox }

-- the ends of a mailbox, of its thread's
module _ {capacity slip_room : ℕ} (room n m count : ℕ) (rows rows' : List (List (Sender Slip)))
    (others : List (List (Sender Note))) (ins : List (Inbox Slip)) (inboxes inboxes' : List (Inbox Note))
    (given : AreNewChannels slip_room n count rows ins) (heard : AreNewChannels capacity m n others inboxes) (b : ℕ) (deeds : List TimedDeed)
    (d : IsBoxInTime room b rows rows' inboxes inboxes' deeds) where
  box_done : HasDoneAll worker_sorts deeds (ends_with b d.new.senders d.share)
  box_done =
      let t : ℕ = worker_thread b in
      let before : Ends Slip Note = ends_with b d.old.senders (roomier room (inbox_for b d.old.inbox)) in
      let fresh : AreFresh before = record {
        senders = λ k sender is.
            let s = source (sender_for b) d.old.senders k sender is in
            ap (λ (x : Sender Slip). x.sent_at) s.gives ∙ ap (times_of by_box b s.value.sent) (given.timeless t k d.old.senders s.value d.row_was s.is)
            ∙ no_times b s.value.sent;
        inbox = ap (λ (i : Inbox Note). times_of for_box b (taken i) i.took_at) (heard.inboxes_are t d.old.inbox d.inbox_was);
      } in
      has_ended worker_sorts deeds before (ends_with b d.new.senders d.share) fresh d.are

module _ {V S : Type 0} {capacity room : ℕ} (site : Site) (May : ℕ → Type 0) (view : VisitsView V) (spools : SpoolsView S)
    (old_lanes : LanesGiven V) (new_lanes : LaneColumns V) (old_boxes : WorkersGiven S) (new_boxes : WorkerColumns S)
    (mail_closed : List (Sent Note)) (slips_closed : List (Sent Slip))
    (mail_new : AreNewChannels capacity (length old_lanes.visits) (threads_for (length old_boxes.spools)) old_lanes.rows old_boxes.inboxes)
    (slips_new : AreNewChannels room (threads_for (length old_boxes.spools)) (length old_lanes.visits) old_boxes.rows old_lanes.inboxes)
    (lanes : HaveServed site May view (channels_of old_boxes.inboxes) old_lanes new_lanes)
    (boxes : HaveWorked site spools (channels_of old_lanes.inboxes) old_boxes new_boxes)
    (mail_shut : AreClosedWith (length old_lanes.visits) (channels_of old_boxes.inboxes)
    (λ k t. for_thread t (flat_map (copies k) (transactions site 0 (conversations_of (lanes.works k).visits)))) mail_closed)
    (slips_shut : AreClosedWith (threads_for (length old_boxes.spools)) (channels_of old_lanes.inboxes) boxes.gave slips_closed)
    (mail_times : HaveTimes new_lanes.rows mail_closed) (slips_times : HaveTimes new_boxes.rows slips_closed)
    (mail_settled : AllZip (IsSettled (λ (n : Note). n.txn.lane)) new_boxes.inboxes mail_closed)
    (slips_settled : AllZip (IsSettled (λ (s : Slip). worker_thread s.worker)) new_lanes.inboxes slips_closed) where
  abbrev n_lanes : ℕ
  n_lanes = length old_lanes.visits

  abbrev n_boxes : ℕ
  n_boxes = length old_boxes.spools

  abbrev threads : ℕ
  threads = threads_for n_boxes

  abbrev sent_by : ℕ → List Transaction
  sent_by k = transactions site 0 (conversations_of (lanes.works k).visits)

  abbrev notes : ℕ → List Note
  notes k = flat_map (copies k) (sent_by k)

  lane_ended : (k : ℕ) (below : k < n_lanes) → HasDoneAll lane_sorts (lanes.deeds k) (lanes.in_time k below).new
  lane_ended k below =
      ended n_lanes threads threads old_lanes.rows new_lanes.rows old_boxes.rows old_boxes.inboxes old_lanes.inboxes new_lanes.inboxes
      mail_new slips_new lane_sorts k (lanes.deeds k) (lanes.in_time k below)

  box_ended : (b : ℕ) (below : b < n_boxes) → HasDoneAll worker_sorts (boxes.deeds b) (ends_with b (boxes.in_time b below).new.senders (boxes.in_time b below).share)
  box_ended b below =
      box_done old_boxes.room threads n_lanes n_lanes old_boxes.rows new_boxes.rows old_lanes.rows old_lanes.inboxes old_boxes.inboxes new_boxes.inboxes
      slips_new mail_new b (boxes.deeds b) (boxes.in_time b below)

  -- ---- copies: each thread's channel, and of it each mailbox's
  abbrev took_times : ℕ → List ℕ
  took_times t = get_or (map (λ (i : Inbox Note). i.took_at) new_boxes.inboxes) t []

  took_times_are : (t : ℕ) (inbox : Inbox Note) → slice_get new_boxes.inboxes t ≡ Some inbox → inbox.took_at ≡ took_times t
  took_times_are t inbox is =
      sym (get_or_from_slice_get (map (λ (i : Inbox Note). i.took_at) new_boxes.inboxes) t inbox.took_at []
      (at_map (λ (i : Inbox Note). i.took_at) new_boxes.inboxes t inbox is))

  mail_are : AreSettledAs (λ note. note.txn.lane) n_lanes threads (λ t. capacity) (λ k t. for_thread t (notes k))
      (λ k t. times (those (gives_to_thread t) (lanes.deeds k))) boxes.took took_times
  mail_are = record {
    channels = channels_of old_boxes.inboxes;
    rows = new_lanes.rows;
    inboxes = new_boxes.inboxes;
    closed = mail_closed;
    channel_count = length-map old_boxes.inboxes (λ (i : Inbox Note). i.channel) ∙ mail_new.counts;
    inbox_count = boxes.as_many.2 ∙ mail_new.counts;
    rows_are = lanes.rows_are;
    shut = mail_shut;
    shut_at = mail_times;
    settled = mail_settled;
    told = λ k t row sender row_is is.
        let below : k < n_lanes = omega (arith, lanes.rows_are.count, slice_get_within new_lanes.rows k row row_is) in
        let d = lanes.in_time k below in
        let same : row ≡ d.new.senders = same_at new_lanes.rows k row d.new.senders row_is d.row_is in
        (lane_ended k below).gave t sender (sym (ap (λ l. slice_get l t) same) ∙ is);
    took = λ t inbox is.
        let old = at old_boxes.inboxes t (omega (arith, boxes.as_many.2, slice_get_within new_boxes.inboxes t inbox is)) in
        let all = boxes.took_all t old.value inbox old.is is in (
          all.took,
          took_times_are t inbox is,
          all.capacity ∙ ap (λ (i : Inbox Note). i.capacity) (mail_new.inboxes_are t old.value old.is),
        );
  }

  module _ (b : ℕ) (box : b < n_boxes) where
    abbrev t : ℕ
    t = worker_thread b

    abbrev IsThreadMail : Type 0
    IsThreadMail = IsSettledAs (λ note. note.txn.lane) n_lanes capacity (λ k. for_thread t (notes k)) (λ k. times (those (gives_to_thread t) (lanes.deeds k)))
        (boxes.took t) (took_times t)

    thread_mail : (c : IsThreadMail) × (c.inbox.gone ≡ Some Closed) × (slice_get new_boxes.inboxes t ≡ Some c.inbox)
    unfolding mail_are
    thread_mail =
        let low : t < threads = thread_within b n_boxes box in
        let c = settled_as (λ note. note.txn.lane) n_lanes threads (λ j. capacity) (λ k j. for_thread j (notes k))
        (λ k j. times (those (gives_to_thread j) (lanes.deeds k))) boxes.took took_times mail_are t low in
        let old = at old_boxes.inboxes t (omega (arith, mail_new.counts, low)) in
        (c.0, (boxes.took_all t old.value c.0.inbox old.is c.1).closed, c.1)

    -- its receiver is what its thread's receiver was to it
    own_channel : IsOwnChannel old_boxes.room b thread_mail.0.inbox (boxes.in_time b box).share
    own_channel =
        let d = boxes.in_time b box in
        subst (λ inbox. IsOwnChannel old_boxes.room b inbox d.share)
        (same_at new_boxes.inboxes t d.new.inbox thread_mail.0.inbox d.inbox_is thread_mail.2) d.own

    -- its worker took all that the lanes owe it
    box_took : (k : ℕ) → k < n_lanes → of_lane k (boxes.works b).taken ≡ copies_owed k b (sent_by k)
    box_took k low =
        ap (of_lane k) (sym (boxes.took_for b box))
        ∙ filter_twice (λ (note : Note). note.txn.lane == k) (λ (note : Note). note.mailbox == b) (boxes.took t)
        ∙ ap (of for_box b) (took_each (λ note. note.txn.lane) n_lanes capacity (λ j. for_thread t (notes j))
        (λ j. times (those (gives_to_thread t) (lanes.deeds j))) (boxes.took t) (took_times t) thread_mail.0 thread_mail.1 k low)
        ∙ of_within for_box b (notes k)

    box_gave_at : (k : ℕ) → k < n_lanes
        → times_of for_box b (for_thread t (notes k)) (times (those (gives_to_thread t) (lanes.deeds k))) ≡ times (those (gives_to b) (lanes.deeds k))
    box_gave_at k low =
        ap (λ l. times_of for_box b (for_thread t l) (times (those (gives_to_thread t) (lanes.deeds k)))) (sym (lanes.did k low).gave)
        ∙ gave_within b (gives_to_thread t) (record { gave = λ note. refl; took = λ note. refl; told = λ slip. refl; heard = λ slip. refl }) (lanes.deeds k)

    box_mail : IsSettledAs (λ note. note.txn.lane) n_lanes (capacity + old_boxes.room) (λ k. copies_owed k b (sent_by k)) (λ k. times (those (gives_to b) (lanes.deeds k)))
        (boxes.works b).taken (times (those is_taken (boxes.deeds b)))
    box_mail =
        said_otherwise (λ note. note.txn.lane) n_lanes (capacity + old_boxes.room) (λ k. of for_box b (for_thread t (notes k))) (λ k. copies_owed k b (sent_by k))
        (λ k. times_of for_box b (for_thread t (notes k)) (times (those (gives_to_thread t) (lanes.deeds k)))) (λ k. times (those (gives_to b) (lanes.deeds k)))
        (of for_box b (boxes.took t)) (boxes.works b).taken (boxes.in_time b box).share.took_at (times (those is_taken (boxes.deeds b)))
        (λ k low. of_within for_box b (notes k)) box_gave_at (boxes.took_for b box) (box_ended b box).took
        (mail_for old_boxes.room b n_lanes capacity (λ k. for_thread t (notes k)) (λ k. times (those (gives_to_thread t) (lanes.deeds k))) (boxes.took t) (took_times t)
        thread_mail.0 thread_mail.1 (boxes.in_time b box).share own_channel)

  -- ---- slips: each lane's channel, by threads and by mailboxes
  abbrev told_times : ℕ → ℕ → List ℕ
  told_times t k = get_or (map (λ (s : Sender Slip). s.sent_at) (get_or new_boxes.rows t [])) k []

  told_times_are : (t k : ℕ) (row : List (Sender Slip)) (sender : Sender Slip) → slice_get new_boxes.rows t ≡ Some row → slice_get row k ≡ Some sender
      → sender.sent_at ≡ told_times t k
  told_times_are t k row sender row_is is =
      sym (ap (λ (l : List (Sender Slip)). get_or (map (λ (s : Sender Slip). s.sent_at) l) k []) (get_or_from_slice_get new_boxes.rows t row [] row_is)
      ∙ get_or_from_slice_get (map (λ (s : Sender Slip). s.sent_at) row) k sender.sent_at [] (at_map (λ (s : Sender Slip). s.sent_at) row k sender is))

  abbrev slip_room : ℕ → ℕ
  slip_room k = get_or (map (λ (i : Inbox Slip). i.capacity) new_lanes.inboxes) k 0

  slips_are : AreSettledAs by_thread threads n_lanes slip_room boxes.gave told_times (λ k. (lanes.works k).heard)
      (λ k. times (those is_heard (lanes.deeds k)))
  slips_are = record {
    channels = channels_of old_lanes.inboxes;
    rows = new_boxes.rows;
    inboxes = new_lanes.inboxes;
    closed = slips_closed;
    channel_count = length-map old_lanes.inboxes (λ (i : Inbox Slip). i.channel) ∙ slips_new.counts;
    inbox_count = lanes.as_many.2;
    rows_are = subst (λ n. AreRows n (channels_of old_lanes.inboxes) boxes.gave new_boxes.rows) mail_new.counts boxes.rows_are;
    shut = slips_shut;
    shut_at = slips_times;
    settled = slips_settled;
    told = told_times_are;
    took = λ k inbox is.
        let below : k < n_lanes = omega (arith, lanes.as_many.2, slice_get_within new_lanes.inboxes k inbox is) in
        let d = lanes.in_time k below in
        let same : inbox ≡ d.new.inbox = same_at new_lanes.inboxes k inbox d.new.inbox is d.inbox_is in
        let none : taken d.old.inbox ≡ [] = ap (λ (i : Inbox Slip). taken i) (slips_new.inboxes_are k d.old.inbox d.inbox_was) in (
          (lanes.heard k d.old.inbox inbox d.inbox_was is).took ∙ ap (λ l. l ++ (lanes.works k).heard) none,
          ap (λ (i : Inbox Slip). i.took_at) same ∙ (lane_ended k below).took,
          sym (get_or_from_slice_get (map (λ (i : Inbox Slip). i.capacity) new_lanes.inboxes) k inbox.capacity 0
              (at_map (λ (i : Inbox Slip). i.capacity) new_lanes.inboxes k inbox is)),
        );
  }

  module _ (k : ℕ) (low : k < n_lanes) where
    lane_channel : k < length (channels_of old_lanes.inboxes)
    lane_channel = omega (arith, length-map old_lanes.inboxes (λ (i : Inbox Slip). i.channel), slips_new.counts, low)

    -- a mailbox's sender to the lane knows when it told
    box_told_at : (b : ℕ) → b < n_boxes
        → times_of by_box b (boxes.gave (worker_thread b) k) (told_times (worker_thread b) k) ≡ times (those (tells_to k) (boxes.deeds b))
    box_told_at b box =
        let t : ℕ = worker_thread b in
        let d = boxes.in_time b box in
        let width = boxes.rows_are.widths t d.new.senders d.row_is in
        let sender = at d.new.senders k (omega (arith, width, lane_channel)) in
        let channel = at (channels_of old_lanes.inboxes) k lane_channel in
        let cell = boxes.rows_are.cells t k d.new.senders channel.value d.row_is channel.is in
        let sent : sender.value.sent ≡ boxes.gave t k =
        ap (λ (s : Sender Slip). s.sent) (same_at d.new.senders k sender.value (lane_at channel.value t (boxes.gave t k) cell.0) sender.is cell.1) in
        (λ i. times_of by_box b (sym sent i) (sym (told_times_are t k d.new.senders sender.value d.row_is sender.is) i))
        ∙ (box_ended b box).gave k (sender_for b sender.value) (at_map (sender_for b) d.new.senders k sender.value sender.is)

    lane_slips : IsSettledAs by_box n_boxes (slip_room k) (λ b. owed_to b (outcomes_in (boxes.works b).turns) k (boxes.works b).taken)
        (λ b. times (those (tells_to k) (boxes.deeds b))) (lanes.works k).heard (times (those is_heard (lanes.deeds k)))
    lane_slips =
        let c = settled_as by_thread threads n_lanes slip_room boxes.gave told_times (λ j. (lanes.works j).heard)
        (λ j. times (those is_heard (lanes.deeds j))) slips_are k low in
        said_otherwise by_box n_boxes (slip_room k) (λ b. of by_box b (boxes.gave (worker_thread b) k))
        (λ b. owed_to b (outcomes_in (boxes.works b).turns) k (boxes.works b).taken)
        (λ b. times_of by_box b (boxes.gave (worker_thread b) k) (told_times (worker_thread b) k)) (λ b. times (those (tells_to k) (boxes.deeds b)))
        (lanes.works k).heard (lanes.works k).heard (times (those is_heard (lanes.deeds k))) (times (those is_heard (lanes.deeds k)))
        (λ b box. boxes.gave_for b k box lane_channel) box_told_at refl refl
        (slips_by n_boxes threads (slip_room k) (λ t. boxes.gave t k) (λ t. told_times t k) (lanes.works k).heard (times (those is_heard (lanes.deeds k))) c.0
        (λ b box. thread_within b n_boxes box) (λ t below. boxes.gave_only t k (omega (arith, mail_new.counts, below)) lane_channel))

  pub have_deeds : HaveDeeds site n_lanes n_boxes (capacity + old_boxes.room) lanes.works boxes.works
  have_deeds = record {
    lane_deeds = lanes.deeds;
    worker_deeds = boxes.deeds;
    of_lanes = λ k below.
        let e = lane_ended k below in
        let d = lanes.did k below in
        record { until = e.until; rises = e.rises; only = d.only; gave = d.gave; heard = d.heard };
    of_workers = λ b below. let e = box_ended b below in record { until = e.until; rises = e.rises; turned = boxes.did b below };
    exchanges = lanes.in_turn;
    mail = box_mail;
    took = λ k b low box. box_took b box k low;
    slip_room = slip_room;
    slips = lane_slips;
  }
