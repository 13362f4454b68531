-- What a server's run comes to: its lanes and its workers taken together.
use Rattle.std.specs.Prelude.{◌≡◌, ◌<◌, ◌≤◌, ℕ, true, length, slice_get, Some}
use Rattle.std.specs.List.{AllByRecursion}
use Rattle.mail_world.specs.declared.limits.TheConstants.{LANE_LIMIT, BLOCK_LIMIT, SLOT_LIMIT, CAPACITY_LIMIT}
use Rattle.mail_world.specs.declared.limits.TheConstants.{READ_LIMIT}
use Rattle.mail_world.specs.Site.{Site}
use Rattle.mail_world.specs.Slips.{of_worker}
use Rattle.mail_world.specs.Lists.{of_lane, due, transactions, VerdictsFit, OutcomesAreAnswers}
use Rattle.mail_runs.specs.Courses.{outcomes_in}
use Rattle.box_worker.specs.Told.{owed_to}
use Rattle.box_worker.specs.TurnEnds.{TellsTurns}
use Rattle.lmtp_house.specs.declared.house.sizes.Sizes.{Sizes}
use Rattle.lmtp_house.specs.Handed.{HandedIn, HandedBack}
use Rattle.lmtp_house.specs.RunOfModel.{IsRunOfModel, IsNobodyElses, IsLeftAlone}
use Rattle.mail_world.specs.Counts.{counted}
use Rattle.lmtp_talk.specs.Entries.{with_entries}
use Rattle.lmtp_talk.specs.Peer.{PeerState}
use Rattle.lmtp_talk.specs.Served.{terms}
use Rattle.lmtp_lane.specs.Visits.{HasVisited, conversations_of, lane_entries}
use Rattle.lmtp_threads.specs.Works.{VisitsView, LaneWork, BoxWork, LaneTold, lane_told, share_of, setting_of}
use Rattle.lmtp_threads.specs.Works.{SpoolsView, IsBoxWork}
use Rattle.lmtp_threads.specs.declared.tally.Tally.{Tally}

-- the sizes that a server may have
pub record IsSize (site : Site) (sizes : Sizes) (lanes spools gates quotas : ℕ) : Type 0 where
  pub blocks : (1 ≤ sizes.blocks) × (sizes.blocks ≤ BLOCK_LIMIT)
  pub slots : (1 ≤ sizes.slots) × (sizes.slots ≤ SLOT_LIMIT)
  pub capacity : (1 ≤ sizes.capacity) × (sizes.capacity ≤ CAPACITY_LIMIT)
  pub some_lanes : (1 ≤ lanes) × (lanes ≤ LANE_LIMIT)
  pub each_spool : spools ≡ length site.boxes
  pub each_gate : gates ≡ length site.boxes
  pub each_quota : quotas ≡ length site.boxes

-- Lane k served these clients until there were no more, and its observer was told the entries of all conversations;
-- its verdicts fit, each moment is one that the clock may answer, and each outcome is that of the slip that it heard.
pub record IsLaneWork (site : Site) (May : ℕ → Type 0) (MayCome : PeerState → Type 0) (k : ℕ) (work : LaneWork)
    (told : LaneTold) : Type 0 where
  pub visited : HasVisited (terms site READ_LIMIT) MayCome told.before told.after work.visits
  pub logged : told.later ≡ with_entries told.earlier (lane_entries site 0 work.visits)
  pub ended : told.over ≡ true
  pub counts : told.count ≡ counted (length work.visits)
  pub verdicts : VerdictsFit site (conversations_of work.visits)
  pub moments : AllByRecursion (λ t. May t.disposition.moment) (transactions site 0 (conversations_of work.visits))
  pub answered : OutcomesAreAnswers site k work.heard (conversations_of work.visits)

-- However lanes and workers interleaved: each worker took of each lane just the copies that the lane's conversations
-- owe its mailbox, in their order, and nothing else, each had its turn under the mailbox's own quota, and its observer
-- was told how each one's turn ended; and each lane heard of its copies every slip that their workers gave, and nothing
-- else, so that its channel is empty when it is closed.
pub record HasRun {V S : Type 0} (site : Site) (May : ℕ → Type 0) (view : VisitsView V) (spools : SpoolsView S)
    (old : HandedIn V S) (new : HandedBack V S) : Type 0 where
  pub lanes : ℕ → LaneWork
  pub boxes : ℕ → BoxWork
  pub as_many_lanes : (length new.visits ≡ length old.visits) × (length new.conversations ≡ length old.visits)
  pub as_many_boxes : (length new.spools ≡ length old.spools) × (length new.tallies ≡ length old.spools)
  pub served : (k count : ℕ) (before after : V) → slice_get old.visits k ≡ Some before
      → slice_get new.visits k ≡ Some after → slice_get new.conversations k ≡ Some count
      → IsLaneWork site May (view.MayGive before) k (lanes k) (lane_told view before after count)
  pub stored : (b : ℕ) (before after : S) (tally : Tally) → slice_get old.spools b ≡ Some before
      → slice_get new.spools b ≡ Some after → slice_get new.tallies b ≡ Some tally
      → IsBoxWork (setting_of (share_of site old.quotas) b) spools.manner (boxes b) (spools.state before)
      (spools.state after) tally
  pub observed : (b : ℕ) (before after : S) → slice_get old.spools b ≡ Some before
      → slice_get new.spools b ≡ Some after
      → TellsTurns (boxes b).turns (spools.told before) (spools.told after)
  pub owed : (k b : ℕ) → k < length old.visits → b < length old.spools
      → of_lane k (boxes b).taken ≡ due site k b (conversations_of (lanes k).visits)
  pub owed_only : (b : ℕ) → b < length old.spools
      → AllByRecursion (λ note. note.txn.lane < length old.visits) (boxes b).taken
  pub told : (k b : ℕ) → k < length old.visits → b < length old.spools
      → of_worker b (lanes k).heard ≡ owed_to b (outcomes_in (boxes b).turns) k (boxes b).taken
  pub told_only : (k : ℕ) → k < length old.visits
      → AllByRecursion (λ slip. slip.worker < length old.spools) (lanes k).heard
  -- what lanes and workers did is an orderly run of the model, over channels of the server's capacity, and of the lists
  -- beside them above 256 mailboxes
  pub is_run : IsRunOfModel site spools.state lanes boxes old
  -- and a spool that is nobody else's holds at the end what the model's mailbox does
  pub alone : (b : ℕ) (before after : S) → slice_get old.spools b ≡ Some before → slice_get new.spools b ≡ Some after
      → IsNobodyElses spools.manner (spools.state before)
      → IsLeftAlone (boxes b).turns (spools.state before).bytes (spools.state after).bytes
