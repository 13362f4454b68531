-- What the threads of a server are given, and what their reports say.
use Rattle.std.specs.Prelude.{◌≡◌, ◌==◌, ℕ, ◌+◌, ◌<◌, Bool, true, false, List, [], ◌∷◌, ◌++◌, length, filter, flat_map}
use Rattle.std.specs.Prelude.{slice_get, Option, Some, None}
use Rattle.std.specs.List.{AllByRecursion}
use Rattle.mail_world.specs.declared.Note.{Note}
use Rattle.mail_world.specs.declared.Slip.{Slip}
use Rattle.mail_world.specs.declared.limits.TheConstants.{READ_LIMIT, RECIPIENT_LIMIT}
use Rattle.mail_world.specs.Site.{Site}
use Rattle.mail_world.specs.Lists.{copies, transactions, VerdictsFit}
use Rattle.mail_runs.specs.Courses.{outcomes_in}
use Rattle.mail_runs.specs.Deeds.{given_in, heard_in, turns_of}
use Rattle.mail_runs.specs.Timed.{TimedDeed, whats}
use Rattle.mail_runs.specs.Known.{is_of_lanes}
use Rattle.mail_runs.specs.Ordered.{AreExchanges}
use Rattle.mail_post.specs.InTime.{Ends, Sorts, AreInTime}
use Rattle.mail_post.specs.Channel.{Channel, Sender, Inbox, taken}
use Rattle.mail_post.specs.Offered.{HaveNumber}
use Rattle.mail_post.specs.Parcels.{of}
use Rattle.mail_post.specs.WorkerThreads.{worker_thread, threads_for}
use Rattle.mail_post.specs.declared.channel.Gone.TheVariants.{Closed}
use Rattle.box_worker.specs.PutOff.{roomier}
use Rattle.box_worker.specs.Shares.{for_box, by_box, inbox_for, senders_for, AreFresh}
use Rattle.box_worker.specs.Told.{owed_to}
use Rattle.box_worker.specs.TurnEnds.{TellsTurns}
use Rattle.box_worker.specs.TurnTimes.{worker_sorts}
use Rattle.lmtp_threads.specs.declared.tally.Tally.{Tally}
use Rattle.lmtp_talk.specs.Entries.{with_entries}
use Rattle.lmtp_talk.specs.Peer.{PeerState}
use Rattle.lmtp_talk.specs.Served.{terms}
use Rattle.mail_world.specs.Counts.{counted}
use Rattle.lmtp_lane.specs.LaneAccount.{IsAnswered}
use Rattle.lmtp_lane.specs.LaneExchange.{for_thread, lane_sorts}
use Rattle.lmtp_lane.specs.LaneRun.{LaneState}
use Rattle.lmtp_lane.specs.Visits.{HasVisited, conversations_of, lane_entries}
use Rattle.lmtp_threads.specs.Channels.{AreRows, none}
use Rattle.lmtp_threads.specs.OwnChannel.{IsOwnChannel}
use Rattle.lmtp_threads.specs.Works.{VisitsView, LaneWork, LaneTold, lane_told, WorkerShare, share_of, setting_of}
use Rattle.lmtp_threads.specs.Works.{SpoolsView, BoxWork, IsBoxWork}
use Rattle.lmtp_threads.specs.Reports.{LaneColumns, WorkerColumns}

-- what a lane is given
pub record LaneTask (V C : Type 0) : Type 0 where
  pub lane : ℕ
  pub site : Site
  pub desk_site : Site
  pub clock : C
  pub visits : V
  pub senders : List (Sender Note)
  pub slips : Inbox Slip

module _ {V C : Type 0} where
  abbrev pub lane_task : Site → C → ℕ → V → List (Sender Note) → Inbox Slip → LaneTask V C
  lane_task site clock k visits senders slips = record {
    lane = k;
    site = site;
    desk_site = site;
    clock = clock;
    visits = visits;
    senders = senders;
    slips = slips;
  }

  -- the tasks of the lanes from number k on
  abbrev pub lane_tasks : Site → C → ℕ → List V → List (List (Sender Note)) → List (Inbox Slip) → List (LaneTask V C)
  lane_tasks site clock k [] rows inboxes = []
  lane_tasks site clock k (v ∷ vs) [] inboxes = []
  lane_tasks site clock k (v ∷ vs) (row ∷ rows) [] = []
  lane_tasks site clock k (v ∷ vs) (row ∷ rows) (inbox ∷ inboxes) =
      lane_task site clock k v row inbox ∷ lane_tasks site clock (k + 1) vs rows inboxes

  -- a lane may run
  pub record IsLaneReady (out : V → Bool) (task : LaneTask V C) : Type 0 where
    pub site : task.desk_site ≡ task.site
    pub count : length task.senders ≡ threads_for (length task.site.boxes)
    pub lane : HaveNumber task.lane task.senders
    pub none_out : out task.visits ≡ false

-- where its lane begins
abbrev pub lane_before : {V C : Type 0} → VisitsView V → LaneTask V C → LaneState
lane_before view task = record {
  finished = view.finished task.visits;
  over = view.over task.visits;
  told = view.told task.visits;
  ends = record { lane = task.lane; senders = task.senders; inbox = task.slips; gone = false };
  conversations = 0;
}

-- a mailbox's spool, and the mailbox's number
pub record Numbered (S : Type 0) : Type 0 where
  pub number : ℕ
  pub spool : S

-- what a worker thread is given: the mailboxes that it owns, its ends of the channels, and how many copies may wait
-- beside its channel
pub record ThreadTask (S : Type 0) : Type 0 where
  pub share : WorkerShare
  pub room : ℕ
  pub thread : ℕ
  pub receiver : Inbox Note
  pub slips : List (Sender Slip)
  pub boxes : List (Numbered S)

module _ {S : Type 0} where
  -- the spools with their mailboxes' numbers, from that one on
  abbrev pub numbered : ℕ → List S → List (Numbered S)
  numbered b [] = []
  numbered b (spool ∷ spools) = record { number = b; spool = spool } ∷ numbered (b + 1) spools

  -- those of a worker thread
  abbrev pub boxes_of : ℕ → List S → List (Numbered S)
  boxes_of t spools = filter (λ box. worker_thread box.number == t) (numbered 0 spools)

  abbrev pub thread_task : WorkerShare → ℕ → ℕ → Inbox Note → List (Sender Slip) → List S → ThreadTask S
  thread_task share room t receiver slips spools = record {
    share = share;
    room = room;
    thread = t;
    receiver = receiver;
    slips = slips;
    boxes = boxes_of t spools;
  }

  -- the tasks of the worker threads from number t on
  abbrev pub thread_tasks : WorkerShare → ℕ → ℕ → List (Inbox Note) → List (List (Sender Slip)) → List S
      → List (ThreadTask S)
  thread_tasks share room t [] rows spools = []
  thread_tasks share room t (inbox ∷ inboxes) [] spools = []
  thread_tasks share room t (inbox ∷ inboxes) (row ∷ rows) spools =
      thread_task share room t inbox row spools ∷ thread_tasks share room (t + 1) inboxes rows spools

  -- a worker thread may run
  pub record IsThreadReady (task : ThreadTask S) : Type 0 where
    pub fresh : AreFresh task.slips task.receiver
    pub not_gone : task.receiver.gone ≡ None
    pub lanes : length task.slips ≡ task.receiver.lanes
    pub thread : HaveNumber task.thread task.slips

-- as IsLaneWork, with the outcomes as they were gathered
pub record IsServedLane (site : Site) (May : ℕ → Type 0) (MayCome : PeerState → Type 0) (k : ℕ) (work : LaneWork)
    (told : LaneTold) : Type 0 where
  pub visited : HasVisited (terms site READ_LIMIT) MayCome told.before told.after work.visits
  pub logged : told.later ≡ with_entries told.earlier (lane_entries site 0 work.visits)
  pub ended : told.over ≡ true
  pub counts : told.count ≡ counted (length work.visits)
  pub verdicts : VerdictsFit site (conversations_of work.visits)
  pub moments : AllByRecursion (λ t. May t.disposition.moment) (transactions site 0 (conversations_of work.visits))
  pub answered : AllByRecursion (IsAnswered k work.heard) (transactions site 0 (conversations_of work.visits))

-- what a lane did, in its order: it gave these copies, and heard these slips
pub record LaneDid (notes : List Note) (slips : List Slip) (deeds : List TimedDeed) : Type 0 where
  pub only : AllByRecursion (λ deed. is_of_lanes deed ≡ true) (whats deeds)
  pub gave : flat_map given_in (whats deeds) ≡ notes
  pub heard : flat_map heard_in (whats deeds) ≡ slips

-- thread k did these deeds at its ends, its row of senders and its receiver, at times that rise
pub record IsInTime {A B : Type 0} (sorts : Sorts) (k : ℕ) (rows rows' : List (List (Sender A)))
    (inboxes inboxes' : List (Inbox B)) (deeds : List TimedDeed) : Type 0 where
  pub old : Ends A B
  pub new : Ends A B
  pub row_was : slice_get rows k ≡ Some old.senders
  pub row_is : slice_get rows' k ≡ Some new.senders
  pub inbox_was : slice_get inboxes k ≡ Some old.inbox
  pub inbox_is : slice_get inboxes' k ≡ Some new.inbox
  pub are : AreInTime sorts deeds old new

-- a receiver took these too
pub record TookSlips (heard : List Slip) (old new : Inbox Slip) : Type 0 where
  pub channel : new.channel ≡ old.channel
  pub lanes : new.lanes ≡ old.lanes
  pub took : taken new ≡ taken old ++ heard

-- a receiver took all of this up to its closing
pub record TookAllNotes (all : List Note) (old new : Inbox Note) : Type 0 where
  pub channel : new.channel ≡ old.channel
  pub capacity : new.capacity ≡ old.capacity
  pub lanes : new.lanes ≡ old.lanes
  pub took : taken new ≡ all
  pub closed : new.gone ≡ Some Closed

-- what lanes are given: their clients, a row of senders for each, and their receivers
pub record LanesGiven (V : Type 0) : Type 0 where
  pub visits : List V
  pub rows : List (List (Sender Note))
  pub inboxes : List (Inbox Slip)

-- what worker threads are given: their receivers, a row of senders for each, by mailbox the spools, and the quotas, and
-- how many copies may wait beside each receiver
pub record WorkersGiven (S : Type 0) : Type 0 where
  pub room : ℕ
  pub inboxes : List (Inbox Note)
  pub rows : List (List (Sender Slip))
  pub spools : List S
  pub quotas : List (Option ℕ)

-- All lanes have ended, and none found a channel gone: what each did, with what its senders gave and its receiver took.
pub record HaveServed {V : Type 0} (site : Site) (May : ℕ → Type 0) (view : VisitsView V)
    (channels : List (Channel Note)) (old : LanesGiven V) (new : LaneColumns V) : Type 0 where
  pub works : ℕ → LaneWork
  pub as_many : (length new.lent ≡ length old.visits) × (length new.tallies ≡ length old.visits)
      × (length new.inboxes ≡ length old.visits)
  pub served : (k count : ℕ) (before after : V) → slice_get old.visits k ≡ Some before
      → slice_get new.lent k ≡ Some after → slice_get new.tallies k ≡ Some count
      → IsServedLane site May (view.MayGive before) k (works k) (lane_told view before after count)
  pub rows_are : AreRows (length old.visits) channels
      (λ k t. for_thread t (flat_map (copies k) (transactions site 0 (conversations_of (works k).visits)))) new.rows
  pub heard : (k : ℕ) (before after : Inbox Slip) → slice_get old.inboxes k ≡ Some before
      → slice_get new.inboxes k ≡ Some after → TookSlips (works k).heard before after
  -- its deeds, message by message, and that their times rise and are those that its ends were told
  pub deeds : ℕ → List TimedDeed
  pub did : (k : ℕ) → k < length old.visits
      → LaneDid (flat_map (copies k) (transactions site 0 (conversations_of (works k).visits)))
      (works k).heard (deeds k)
  pub in_turn : (k : ℕ) → k < length old.visits
      → AreExchanges RECIPIENT_LIMIT k (transactions site 0 (conversations_of (works k).visits)) (whats (deeds k))
  pub in_time : (k : ℕ) → k < length old.visits
      → IsInTime lane_sorts k old.rows new.rows old.inboxes new.inboxes (deeds k)

-- Mailbox b did these deeds at its thread's ends, of which its own are what the thread took and gave for it, at times
-- that rise. To the mailbox, copies that the thread took and that waited beside its channel were in the channel still,
-- which has room for that many more.
pub record IsBoxInTime (room b : ℕ) (rows rows' : List (List (Sender Slip))) (inboxes inboxes' : List (Inbox Note))
    (deeds : List TimedDeed) : Type 0 where
  pub old : Ends Slip Note
  pub new : Ends Slip Note
  pub row_was : slice_get rows (worker_thread b) ≡ Some old.senders
  pub row_is : slice_get rows' (worker_thread b) ≡ Some new.senders
  pub inbox_was : slice_get inboxes (worker_thread b) ≡ Some old.inbox
  pub inbox_is : slice_get inboxes' (worker_thread b) ≡ Some new.inbox
  pub share : Inbox Note
  pub own : IsOwnChannel room b new.inbox share
  pub are : AreInTime worker_sorts deeds
      (record { senders = senders_for b old.senders; inbox = roomier room (inbox_for b old.inbox) })
      (record { senders = senders_for b new.senders; inbox = share })

-- All worker threads have ended, and none found a channel gone: what each mailbox did, and what its thread took and gave.
pub record HaveWorked {S : Type 0} (site : Site) (view : SpoolsView S) (channels : List (Channel Slip))
    (old : WorkersGiven S) (new : WorkerColumns S) : Type 0 where
  pub works : ℕ → BoxWork
  pub as_many : (length new.lent ≡ length old.spools) × (length new.tallies ≡ length old.spools)
      × (length new.inboxes ≡ length old.inboxes)
  pub stored : (b : ℕ) (before after : S) (tally : Tally) → slice_get old.spools b ≡ Some before
      → slice_get new.lent b ≡ Some after → slice_get new.tallies b ≡ Some tally
      → IsBoxWork (setting_of (share_of site old.quotas) b) view.manner (works b) (view.state before)
      (view.state after) tally
  pub observed : (b : ℕ) (before after : S) → slice_get old.spools b ≡ Some before → slice_get new.lent b ≡ Some after
      → TellsTurns (works b).turns (view.told before) (view.told after)
  -- what each thread took, and gave each lane
  pub took : ℕ → List Note
  pub gave : ℕ → ℕ → List Slip
  pub rows_are : AreRows (length old.inboxes) channels gave new.rows
  pub took_all : (t : ℕ) (before after : Inbox Note) → slice_get old.inboxes t ≡ Some before
      → slice_get new.inboxes t ≡ Some after → TookAllNotes (took t) before after
  -- of that, what is a mailbox's; and it gave nothing but its mailboxes' slips
  pub took_for : (b : ℕ) → b < length old.spools → of for_box b (took (worker_thread b)) ≡ (works b).taken
  pub gave_for : (b k : ℕ) → b < length old.spools → k < length channels
      → of by_box b (gave (worker_thread b) k) ≡ owed_to b (outcomes_in (works b).turns) k (works b).taken
  pub gave_only : (t k : ℕ) → t < length old.inboxes → k < length channels
      → AllByRecursion (λ slip. slip.worker < length old.spools) (gave t k)
  -- its deeds, a turn for each copy, and that their times rise and are those that its ends were told
  pub deeds : ℕ → List TimedDeed
  pub did : (b : ℕ) → b < length old.spools
      → whats (deeds b) ≡ turns_of b (works b).taken (outcomes_in (works b).turns)
  pub in_time : (b : ℕ) → b < length old.spools → IsBoxInTime old.room b old.rows new.rows old.inboxes new.inboxes (deeds b)

-- whatever these tasks were made of, all lanes have ended
abbrev pub HaveServedAll : {V C : Type 0} → (C → ℕ → Type 0) → VisitsView V → List (LaneTask V C) → LaneColumns V
    → Type 0
HaveServedAll {V} {C} May view tasks new =
    (site : Site) (clock : C) (channels : List (Channel Note)) (old : LanesGiven V)
    → tasks ≡ lane_tasks site clock 0 old.visits old.rows old.inboxes → length old.inboxes ≡ length old.visits
    → AreRows (length old.visits) channels none old.rows → HaveServed site (May clock) view channels old new

-- whatever these tasks were made of, all workers have ended
abbrev pub HaveWorkedAll : {S : Type 0} → SpoolsView S → List (ThreadTask S) → WorkerColumns S → Type 0
HaveWorkedAll {S} view tasks new =
    (site : Site) (channels : List (Channel Slip)) (old : WorkersGiven S)
    → tasks ≡ thread_tasks (share_of site old.quotas) old.room 0 old.inboxes old.rows old.spools
    → length old.inboxes ≡ threads_for (length old.spools)
    → AreRows (length old.inboxes) channels none old.rows → HaveWorked site view channels old new
