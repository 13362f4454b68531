-- The worker threads' reports, taken together: what was done at each mailbox.
use Rattle.std.proofs.Common.{◌≡◌, ℕ, ◌+◌, ◌<◌, ◌≤◌, ◌⊎◌, false, List, [], ◌++◌, length, map, refl, sym, ap, ◌∙◌, subst, arith, Option, Some, None, inl, inr}
use Rattle.std.specs.Prelude.{slice_get}
use Rattle.std.specs.List.{AllZip, AllByRecursion, list_any}
use Rattle.std.proofs.lemmas.Bool.{cases_lt, or_parts}
use Rattle.std.proofs.lemmas.List.{length-map}
use Rattle.std.proofs.lemmas.Option.{slice_get_within}
use Rattle.mail_world.specs.declared.Note.{Note}
use Rattle.mail_world.specs.declared.Slip.{Slip}
use Rattle.mail_world.specs.Site.{Site}
use Rattle.mbox_spool.specs.Spool.{SpoolState}
use Rattle.mail_runs.specs.Courses.{outcomes_in}
use Rattle.mail_runs.specs.Deeds.{turns_of}
use Rattle.mail_runs.specs.Timed.{TimedDeed, whats}
use Rattle.mail_post.specs.InTime.{AreInTime}
use Rattle.mail_post.specs.Channel.{Channel, Sender, Inbox, taken}
use Rattle.mail_post.specs.Offered.{HasAccepted, any_gone}
use Rattle.mail_post.specs.Parcels.{of as of_one}
use Rattle.mail_post.specs.WorkerThreads.{worker_thread, threads_for}
use Rattle.mail_post.proofs.Offered.{none_gone}
use Rattle.box_worker.specs.declared.turn.TurnEnd.{TurnEnd}
use Rattle.box_worker.specs.Told.{owed_to}
use Rattle.box_worker.specs.TurnTimes.{worker_sorts}
use Rattle.box_worker.specs.TurnEnds.{TellsTurns}
use Rattle.box_worker.specs.Worked.{idle, is_lost, HasWorked}
use Rattle.box_worker.specs.PutOff.{roomier}
use Rattle.box_worker.specs.Shares.{for_box, by_box, inbox_for, sender_for, senders_for, KeptState, numbers_of, worker_lost, IsAt}
use Rattle.box_worker.proofs.Handling.{was_closed, none_came_back}
use Rattle.lmtp_threads.specs.declared.tally.Tally.{Tally}
use Rattle.lmtp_threads.specs.OwnChannel.{IsOwnChannel}
use Rattle.lmtp_threads.specs.Works.{SpoolsView, WorkerShare, share_of, setting_of, BoxWork, IsBoxWork}
use Rattle.lmtp_threads.specs.Channels.{AreRows, none, lane_at, HasGiven}
use Rattle.lmtp_threads.specs.Reports.{WorkerColumns, tally_of, TellsOfSpool, ThreadBack}
use Rattle.lmtp_threads.specs.Tasks.{Numbered, boxes_of, ThreadTask, thread_task, thread_tasks, WorkersGiven, TookAllNotes, HaveWorked}
use Rattle.lmtp_threads.specs.ByThread.{numbers_from, numbers_in, AreTasksOf}
use Rattle.lmtp_threads.specs.ThreadWork.{IsThreadWork}
use Rattle.lmtp_threads.specs.BroughtBack.{IsAmong}
use Rattle.lmtp_threads.proofs.Pairs.{AllZip-length}
use Rattle.lmtp_threads.proofs.ChannelRows.{at, same_at, at_each, each_at, zip_at, at_map, source, rows_given}
use Rattle.lmtp_threads.proofs.Filling.{each_fails, at_column, column_count}
use Rattle.lmtp_threads.proofs.ByThread.{length_numbers, number_there, numbers_owned, below_at, owned_at, task_at, tasks_count, count_is}

-- what a receiver took, and what a row's sender to a lane was told was accepted
abbrev pub took_by : Option (Inbox Note) → List Note
took_by None = []
took_by (Some inbox) = taken inbox

abbrev pub sent_by : Option (Sender Slip) → List Slip
sent_by None = []
sent_by (Some sender) = sender.sent

abbrev pub gave_by : Option (List (Sender Slip)) → ℕ → List Slip
gave_by None k = []
gave_by (Some row) k = sent_by (slice_get row k)

-- what was done at a mailbox, and when
pub record BoxDone : Type 0 where
  pub work : BoxWork
  pub deeds : List TimedDeed

abbrev none_done : BoxDone
none_done = record { work = record { taken = []; turns = [] }; deeds = [] }

module _ {S : Type 0} (view : SpoolsView S) where
  -- what came back of so many mailboxes, and of their threads
  pub record HoldAll (count : ℕ) (backs : List ThreadBack) (columns : WorkerColumns S) : Type 0 where
    pub rows : columns.rows ≡ map (λ (r : ThreadBack). r.slips) backs
    pub inboxes : columns.inboxes ≡ map (λ (r : ThreadBack). r.receiver) backs
    pub gone : columns.gone ≡ list_any (λ (r : ThreadBack). r.lost) backs
    pub came : List KeptState
    pub numbers : numbers_of came ≡ numbers_from 0 count
    pub among : AllByRecursion (IsAmong (map (λ (r : ThreadBack). r.boxes) backs)) came
    pub lent : AllZip (TellsOfSpool view) came columns.lent
    pub tallies : columns.tallies ≡ map tally_of came

  module _ (site : Site) (channels : List (Channel Slip)) (given : WorkersGiven S) (count : ℕ) (backs : List ThreadBack) (columns : WorkerColumns S)
      (of : HoldAll count backs columns)
      (inboxes_count : length given.inboxes ≡ threads_for (length given.spools)) (are : AreRows (length given.inboxes) channels none given.rows)
      (tasks_of : AreTasksOf count (thread_tasks (share_of site given.quotas) given.room 0 given.inboxes given.rows given.spools))
      (all : AllZip (IsThreadWork view) (thread_tasks (share_of site given.quotas) given.room 0 given.inboxes given.rows given.spools) backs)
      (sound : columns.gone ≡ false) where
    abbrev share : WorkerShare
    share = share_of site given.quotas

    abbrev tasks : List (ThreadTask S)
    tasks = thread_tasks share given.room 0 given.inboxes given.rows given.spools

    abbrev n : ℕ
    n = length given.spools

    tasks_len : length tasks ≡ length given.inboxes
    tasks_len = tasks_count share given.room 0 given.inboxes given.rows given.spools are.count

    backs_len : length backs ≡ length given.inboxes
    backs_len = sym (AllZip-length (IsThreadWork view) tasks backs all) ∙ tasks_len

    boxes_count : count ≡ n
    boxes_count = count_is share given.room given.inboxes given.rows given.spools are.count inboxes_count count tasks_of

    came_len : length of.came ≡ n
    came_len = sym (length-map of.came (λ (k : KeptState). k.number)) ∙ (ap length of.numbers ∙ (length_numbers 0 count ∙ boxes_count))

    -- what is known of thread t
    record ThreadIs (t : ℕ) : Type 0 where
      inbox : Inbox Note
      row : List (Sender Slip)
      back : ThreadBack
      inbox_was : slice_get given.inboxes t ≡ Some inbox
      row_was : slice_get given.rows t ≡ Some row
      inbox_is : slice_get columns.inboxes t ≡ Some back.receiver
      row_is : slice_get columns.rows t ≡ Some back.slips
      sound_back : back.lost ≡ false
      work : IsThreadWork view (thread_task share given.room t inbox row given.spools) back

    thread_is : (t : ℕ) (back : ThreadBack) → slice_get backs t ≡ Some back → ThreadIs t
    thread_is t back e =
        let task = at tasks t (omega (arith, tasks_len, backs_len, slice_get_within backs t back e)) in
        let made = task_at share given.room 0 given.inboxes given.rows given.spools t task.value task.is in
        let first : 0 + t ≡ t = omega arith in
        let work : IsThreadWork view task.value back = zip_at (IsThreadWork view) tasks backs all t task.value back task.is e in
        let is : task.value ≡ thread_task share given.room t made.inbox made.row given.spools =
        made.is ∙ ap (λ j. thread_task share given.room j made.inbox made.row given.spools) first in record {
          inbox = made.inbox;
          row = made.row;
          back = back;
          inbox_was = made.inbox_is;
          row_was = made.row_is;
          inbox_is = at_column (λ (r : ThreadBack). r.receiver) backs columns.inboxes of.inboxes t back e;
          row_is = at_column (λ (r : ThreadBack). r.slips) backs columns.rows of.rows t back e;
          sound_back = at_each (λ (r : ThreadBack). r.lost ≡ false) backs (each_fails (λ (r : ThreadBack). r.lost) backs (sym of.gone ∙ sound)) t back e;
          work = subst (λ (x : ThreadTask S). IsThreadWork view x back) is work;
        }

    none_of_thread : (t : ℕ) (x : ThreadIs t) → any_gone x.back.slips ≡ false
    none_of_thread t x = (or_parts (any_gone x.back.slips) (is_lost x.back.receiver.gone) (sym x.work.lost ∙ x.sound_back)).0

    -- what is known of mailbox b, which is thread t's
    record BoxOf (t b : ℕ) : Type 0 where
      thread : ThreadIs t
      spool : S
      kept : KeptState
      place : ℕ
      spool_is : slice_get given.spools b ≡ Some spool
      came_is : slice_get of.came b ≡ Some kept
      kept_is : slice_get thread.back.boxes place ≡ Some kept
      number : kept.number ≡ b
      inbox : Inbox Note
      own : IsOwnChannel given.room b thread.back.receiver inbox
      worked : HasWorked (setting_of share b) view.manner (roomier given.room (inbox_for b thread.inbox)) inbox
          (idle (senders_for b thread.row) (view.state spool) (view.told spool)) (worker_lost (senders_for b thread.back.slips) kept thread.back.lost)

    -- the mailbox at a place of a thread's
    box_there : (t : ℕ) (back : ThreadBack) → slice_get backs t ≡ Some back → (place : ℕ) (kept : KeptState) → slice_get back.boxes place ≡ Some kept
        → slice_get of.came kept.number ≡ Some kept → (b : ℕ) → kept.number ≡ b → (worker_thread b ≡ t) × BoxOf t b
    unfolding thread_is
    box_there t back e place kept f came b is =
        let th = thread_is t back e in
        let numbers : numbers_of back.boxes ≡ numbers_in (boxes_of t given.spools) = th.work.numbers in
        let there : slice_get (numbers_in (boxes_of t given.spools)) place ≡ Some kept.number =
        subst (λ l. slice_get l place ≡ Some kept.number) numbers (at_map (λ (k : KeptState). k.number) back.boxes place kept f) in
        let box = source (λ (x : Numbered S). x.number) (boxes_of t given.spools) place kept.number there in
        let own = owned_at t given.spools place box.value box.is in
        let number : box.value.number ≡ b = sym box.gives ∙ is in
        let done = th.work.worked (none_of_thread t th) place box.value kept box.is f in
        let here : BoxOf t box.value.number = record {
          thread = th;
          spool = box.value.spool;
          kept = kept;
          place = place;
          spool_is = own.is;
          came_is = subst (λ k. slice_get of.came k ≡ Some kept) box.gives came;
          kept_is = f;
          number = box.gives;
          inbox = done.0;
          own = done.1;
          worked = done.2;
        } in
        (ap worker_thread (sym number) ∙ own.thread, subst (BoxOf t) number here)

    box_of : (b : ℕ) → b < n → BoxOf (worker_thread b) b
    box_of b below =
        let c = at of.came b (omega (arith, came_len, below)) in
        let number : c.value.number ≡ b =
        let there = number_there 0 count b c.value.number
        (subst (λ l. slice_get l b ≡ Some c.value.number) of.numbers (at_map (λ (k : KeptState). k.number) of.came b c.value c.is)) in
        omega (arith, there.0) in
        let among = at_each (IsAmong (map (λ (r : ThreadBack). r.boxes) backs)) of.came of.among b c.value c.is in
        let back = source (λ (r : ThreadBack). r.boxes) backs among.thread among.own among.own_is in
        let kept_is : slice_get back.value.boxes among.place ≡ Some c.value = subst (λ l. slice_get l among.place ≡ Some c.value) back.gives among.is in
        let found = box_there among.thread back.value back.is among.place c.value kept_is
        (subst (λ k. slice_get of.came k ≡ Some c.value) (sym number) c.is) b number in
        subst (λ t. BoxOf t b) (sym found.0) found.1

    -- each thread has the mailbox of its own number
    first_of : (t : ℕ) → t < length given.inboxes → BoxOf t t
    first_of t below =
        let own : worker_thread t ≡ t = omega (arith, inboxes_count, below) in
        subst (λ k. BoxOf k t) own (box_of t (omega (arith, inboxes_count, below)))

    -- a sender that was given to a thread was told nothing
    new_sender : (t k : ℕ) (row : List (Sender Slip)) (sender : Sender Slip) → slice_get given.rows t ≡ Some row → slice_get row k ≡ Some sender
        → (sender.number ≡ t) × (sender.sent ≡ [])
    new_sender t k row sender e f =
        let channel = at channels k (omega (arith, are.widths t row e, slice_get_within row k sender f)) in
        let cell = are.cells t k row channel.value e channel.is in
        let is : sender ≡ lane_at channel.value t [] cell.0 = same_at row k sender (lane_at channel.value t [] cell.0) f cell.1 in
        (ap (λ (s : Sender Slip). s.number) is, ap (λ (s : Sender Slip). s.sent) is)

    -- what a mailbox's worker owed a lane is what its thread gave of it
    accepted_by : (t b : ℕ) (x : BoxOf t b) (k : ℕ) (before after : Sender Slip) → slice_get x.thread.row k ≡ Some before
        → slice_get x.thread.back.slips k ≡ Some after
        → HasAccepted (owed_to b (outcomes_in x.worked.handled.turns) k (taken x.inbox)) (sender_for b before) (sender_for b after)
    accepted_by t b x k before after e f =
        x.worked.handled.told.each k (sender_for b before) (sender_for b after) (at_map (sender_for b) x.thread.row k before e)
        (at_map (sender_for b) x.thread.back.slips k after f)

    none_back : (t b : ℕ) (x : BoxOf t b) → any_gone x.thread.back.slips ≡ false
    none_back t b x = none_of_thread t x.thread

    abbrev took : ℕ → List Note
    took t = took_by (slice_get columns.inboxes t)

    abbrev gave : ℕ → ℕ → List Slip
    gave t k = gave_by (slice_get columns.rows t) k

    gave_is : (t b : ℕ) (x : BoxOf t b) (k : ℕ) (after : Sender Slip) → slice_get x.thread.back.slips k ≡ Some after → gave t k ≡ after.sent
    gave_is t b x k after e = ap (λ row. gave_by row k) x.thread.row_is ∙ ap sent_by e

    given_out : (t : ℕ) (row row' : List (Sender Slip)) → slice_get given.rows t ≡ Some row → slice_get columns.rows t ≡ Some row' → HasGiven (gave t) row row'
    given_out t row row' e f =
        let x = first_of t (omega (arith, are.count, slice_get_within given.rows t row e)) in
        let was : x.thread.row ≡ row = same_at given.rows t x.thread.row row x.thread.row_was e in
        let is : x.thread.back.slips ≡ row' = same_at columns.rows t x.thread.back.slips row' x.thread.row_is f in
        let Given : List (Sender Slip) → List (Sender Slip) → Type 0 = λ old new. HasGiven (gave t) old new in
        let made : Given x.thread.row x.thread.back.slips = record {
          as_many = sym (length-map x.thread.back.slips (sender_for t)) ∙ (x.worked.handled.told.as_many ∙ length-map x.thread.row (sender_for t));
          each = λ k before after g h.
              let o = accepted_by t t x k before after g h in
              let new = new_sender t k x.thread.row before x.thread.row_was g in
              let own : worker_thread x.kept.number ≡ t =
              ap worker_thread x.number ∙ (let same : worker_thread t ≡ t = omega (arith, inboxes_count, are.count, slice_get_within given.rows t row e) in same) in
              let number : after.number ≡ t = x.thread.work.numbered x.place x.kept x.kept_is k after h ∙ own in
              let sent : after.sent ≡ before.sent ++ gave t k =
              sym (gave_is t t x k after h) ∙ ap (λ l. l ++ gave t k) (sym new.1) in
              (o.sent.channel, number ∙ sym new.0, sent, none_gone x.thread.back.slips k after (none_back t t x) h);
        } in
        subst (λ new. Given row new) is (subst (λ old. Given old x.thread.back.slips) was made)

    took_all : (t : ℕ) (before after : Inbox Note) → slice_get given.inboxes t ≡ Some before → slice_get columns.inboxes t ≡ Some after
        → TookAllNotes (took t) before after
    took_all t before after e f =
        let x = first_of t (slice_get_within given.inboxes t before e) in
        let was : x.thread.inbox ≡ before = same_at given.inboxes t x.thread.inbox before x.thread.inbox_was e in
        let is : x.thread.back.receiver ≡ after = same_at columns.inboxes t x.thread.back.receiver after x.thread.inbox_is f in
        let Took : Inbox Note → Inbox Note → Type 0 = λ old new. TookAllNotes (took t) old new in
        let made : Took x.thread.inbox x.thread.back.receiver = record {
          channel = x.thread.work.channel.0;
          capacity = x.thread.work.channel.2;
          lanes = x.thread.work.channel.1;
          took = sym (ap took_by x.thread.inbox_is);
          closed = sym x.own.gone ∙ was_closed _ _ _ _ _ _ x.worked x.thread.sound_back;
        } in
        subst (λ new. Took before new) is (subst (λ old. Took old x.thread.back.receiver) was made)

    abbrev done_of : (b : ℕ) → BoxOf (worker_thread b) b → BoxDone
    done_of b x = record {
      work = record { taken = taken x.inbox; turns = x.worked.handled.turns };
      deeds = x.worked.turns.deeds;
    }

    -- what was done at a mailbox, and that it was
    record BoxFacts (b : ℕ) (done : BoxDone) : Type 0 where
      box : BoxOf (worker_thread b) b
      is : done_of b box ≡ done

    abbrev pick : (b : ℕ) → ((b < n) ⊎ (n ≤ b)) → BoxDone
    pick b (inl below) = done_of b (box_of b below)
    pick b (inr above) = none_done

    abbrev dones : ℕ → BoxDone
    dones b = pick b (cases_lt b n)

    facts_of : (b : ℕ) (c : (b < n) ⊎ (n ≤ b)) → b < n → BoxFacts b (pick b c)
    facts_of b (inl low) below = record { box = box_of b low; is = refl }
    facts_of b (inr high) below = absurd (omega arith)

    facts : (b : ℕ) → b < n → BoxFacts b (dones b)
    facts b below = facts_of b (cases_lt b n) below

    stored : (b : ℕ) (x : BoxOf (worker_thread b) b)
        → IsBoxWork (setting_of share b) view.manner (done_of b x).work (view.state x.spool) x.kept.mailbox.mailbox.state (tally_of x.kept)
    stored b x = let h = x.worked.handled in record {
      taken_count = h.taken_count;
      stored_count = h.stored_count;
      over_count = h.over_count;
      turned = h.each;
    }

    gave_for : (b : ℕ) (x : BoxOf (worker_thread b) b) (k : ℕ) → k < length channels
        → of_one by_box b (gave (worker_thread b) k) ≡ owed_to b (outcomes_in (done_of b x).work.turns) k (done_of b x).work.taken
    gave_for b x k below =
        let t = worker_thread b in
        let before = at x.thread.row k (omega (arith, are.widths t x.thread.row x.thread.row_was, below)) in
        let many : length x.thread.back.slips ≡ length x.thread.row =
        sym (length-map x.thread.back.slips (sender_for b)) ∙ (x.worked.handled.told.as_many ∙ length-map x.thread.row (sender_for b)) in
        let after = at x.thread.back.slips k (omega (arith, many, are.widths t x.thread.row x.thread.row_was, below)) in
        let o = accepted_by t b x k before.value after.value before.is after.is in
        let none : of_one by_box b before.value.sent ≡ [] = ap (of_one by_box b) (new_sender t k x.thread.row before.value x.thread.row_was before.is).1 in
        let whole : after.value.gone ≡ false = none_gone x.thread.back.slips k after.value (none_back t b x) after.is in
        ap (of_one by_box b) (gave_is t b x k after.value after.is) ∙ (o.sent.sent ∙ (ap (λ l. l ++ o.accepted) none ∙ o.all whole))

    took_for : (b : ℕ) (x : BoxOf (worker_thread b) b) → of_one for_box b (took (worker_thread b)) ≡ (done_of b x).work.taken
    took_for b x =
        ap (λ i. of_one for_box b (took_by i)) x.thread.inbox_is ∙ sym x.own.took

    gave_only : (t k : ℕ) → t < length given.inboxes → k < length channels → AllByRecursion (λ (slip : Slip). slip.worker < n) (gave t k)
    gave_only t k below within =
        let x = first_of t below in
        let many : length x.thread.back.slips ≡ length x.thread.row =
        sym (length-map x.thread.back.slips (sender_for t)) ∙ (x.worked.handled.told.as_many ∙ length-map x.thread.row (sender_for t)) in
        let after = at x.thread.back.slips k (omega (arith, many, are.widths t x.thread.row x.thread.row_was, within)) in
        let boxes = x.thread.back.boxes in
        let numbers : numbers_of boxes ≡ numbers_in (boxes_of t given.spools) = x.thread.work.numbers in
        let Own : Slip → Type 0 = λ (slip : Slip). (i : ℕ) × IsAt boxes slip.worker i in
        let only : AllByRecursion Own after.value.sent = x.thread.work.only k after.value after.is in
        let each : AllByRecursion (λ (slip : Slip). slip.worker < n) after.value.sent = each_at (λ (slip : Slip). slip.worker < n) after.value.sent (λ j slip e.
        let own = at_each Own after.value.sent only j slip e in
        let is = own.1 in
        let there : slice_get (numbers_of boxes) own.0 ≡ Some slip.worker =
        at_map (λ (k : KeptState). k.number) boxes own.0 is.0 is.1 ∙ ap (λ m. Some m) is.2 in
        below_at 256 t n own.0 slip.worker
        (ap (λ l. slice_get l own.0) (sym (numbers ∙ numbers_owned 256 t 0 given.spools)) ∙ there)) in
        subst (AllByRecursion (λ (slip : Slip). slip.worker < n)) (sym (gave_is t t x k after.value after.is)) each

    pub have_worked : HaveWorked site view channels given columns
    have_worked = record {
      works = λ b. (dones b).work;
      as_many = (
        sym (AllZip-length (TellsOfSpool view) of.came columns.lent of.lent) ∙ came_len,
        column_count tally_of of.came columns.tallies of.tallies ∙ came_len,
        column_count (λ (r : ThreadBack). r.receiver) backs columns.inboxes of.inboxes ∙ backs_len,
      );
      stored = λ b old new tally e f g.
          let x = facts b (slice_get_within given.spools b old e) in
          let tells = zip_at (TellsOfSpool view) of.came columns.lent of.lent b x.box.kept new x.box.came_is f in
          let old_is : x.box.spool ≡ old = same_at given.spools b x.box.spool old x.box.spool_is e in
          let tally_is : tally_of x.box.kept ≡ tally =
          same_at columns.tallies b (tally_of x.box.kept) tally (at_column tally_of of.came columns.tallies of.tallies b x.box.kept x.box.came_is) g in
          let Stored : S → SpoolState → Tally → BoxDone → Type 0 = λ s after m d. IsBoxWork (setting_of share b) view.manner d.work (view.state s) after m in
          let kept = x.box.kept in
          subst (Stored old (view.state new) tally) x.is
          (subst (λ m. Stored old (view.state new) m (done_of b x.box)) tally_is
          (subst (λ after. Stored old after (tally_of kept) (done_of b x.box)) tells.0
          (subst (λ s. Stored s kept.mailbox.mailbox.state (tally_of kept) (done_of b x.box)) old_is (stored b x.box))));
      observed = λ b old new e f.
          let x = facts b (slice_get_within given.spools b old e) in
          let tells = zip_at (TellsOfSpool view) of.came columns.lent of.lent b x.box.kept new x.box.came_is f in
          let old_is : x.box.spool ≡ old = same_at given.spools b x.box.spool old x.box.spool_is e in
          let Observed : S → Option (List TurnEnd) → BoxDone → Type 0 = λ s later d. TellsTurns d.work.turns (view.told s) later in
          subst (Observed old (view.told new)) x.is (subst (λ later. Observed old later (done_of b x.box)) tells.1
          (subst (λ s. Observed s x.box.kept.told (done_of b x.box)) old_is x.box.worked.handled.observed));
      took = took;
      gave = gave;
      rows_are = rows_given (length given.inboxes) channels gave given.rows columns.rows are
          (column_count (λ (r : ThreadBack). r.slips) backs columns.rows of.rows ∙ backs_len) given_out;
      took_all = took_all;
      took_for = λ b below.
          let x = facts b below in
          took_for b x.box ∙ ap (λ (d : BoxDone). d.work.taken) x.is;
      gave_for = λ b k below within.
          let x = facts b below in
          gave_for b x.box k within ∙ ap (λ (d : BoxDone). owed_to b (outcomes_in d.work.turns) k d.work.taken) x.is;
      gave_only = gave_only;
      deeds = λ b. (dones b).deeds;
      did = λ b below.
          let x = facts b below in
          let Did : BoxDone → Type 0 = λ d. whats d.deeds ≡ turns_of b d.work.taken (outcomes_in d.work.turns) in
          let did : Did (done_of b x.box) = x.box.worked.turns.all (none_came_back _ _ _ _ _ _ x.box.worked x.box.thread.sound_back) in
          subst Did x.is did;
      in_time = λ b below.
          let x = facts b below in
          let th = x.box.thread in
          let InTime : BoxDone → Type 0 =
          λ d. AreInTime worker_sorts d.deeds (record { senders = senders_for b th.row; inbox = roomier given.room (inbox_for b th.inbox) })
          (record { senders = senders_for b th.back.slips; inbox = x.box.inbox }) in
          let are_so : InTime (done_of b x.box) = x.box.worked.turns.in_time in
          record {
            old = record { senders = th.row; inbox = th.inbox };
            new = record { senders = th.back.slips; inbox = th.back.receiver };
            row_was = th.row_was;
            row_is = th.row_is;
            inbox_was = th.inbox_was;
            inbox_is = th.inbox_is;
            share = x.box.inbox;
            own = x.box.own;
            are = subst InTime x.is are_so;
          };
    }
