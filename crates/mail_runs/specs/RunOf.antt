-- A run of the model in which the threads of a server come to what they came to.
use Rattle.std.specs.Prelude.{◌≡◌, ℕ, ◌<◌, true, List, [], ◌∷◌, length, None}
use Rattle.mail_world.specs.declared.Slip.{Slip}
use Rattle.mail_world.specs.Lists.{of_lane}
use Rattle.mail_world.specs.Turns.{Turn, NotHad, Had, Told, left_by}
use Rattle.mail_world.specs.House.{House, Box, Lane, notes_of, IsStart}
use Rattle.mail_world.specs.Events.{LaneIs, BoxIs}
use Rattle.mail_world.specs.Runs.{Happened, Run, last_house, events_of, offers_by}
use Rattle.mail_runs.specs.Deeds.{Deed}
use Rattle.mail_runs.specs.Courses.{Server, Course}
use Rattle.mail_runs.specs.Histories.{Threads, IsHistory}

-- how many bytes are kept after a turn, and after these turns, where that many were kept before
abbrev pub kept_after : ℕ → Turn → ℕ
kept_after kept NotHad = kept
kept_after kept (Had lock unlock) = unlock.synced

abbrev pub kept_by : ℕ → List Told → ℕ
kept_by kept [] = kept
kept_by kept (told ∷ turns) = kept_by (kept_after kept told.turn) turns

-- a mailbox in the last house: its channel is closed, all that it accepted was taken, in the worker's order, it had the
-- worker's turns under its quota, and it holds what these left, and keeps as much
pub record EndsAs (course : Course) (box : Box) : Type 0 where
  pub accepted : notes_of box.accepted ≡ course.taken
  pub taken : box.taken ≡ length box.accepted
  pub closed : box.closed ≡ true
  pub free_hand : box.hand ≡ None
  pub quota : box.quota ≡ course.quota
  pub old : box.old ≡ course.old
  pub turns : box.turns ≡ course.turns
  pub spool : box.spool ≡ left_by course.old course.turns
  pub kept : box.kept ≡ kept_by 0 course.turns

-- a lane in the last house heard all slips that were given to it, in their order, and has nothing left
pub record HeardAs (all : List Slip) (lane : Lane) : Type 0 where
  pub slips : lane.slips ≡ all
  pub heard : lane.heard ≡ all
  pub collected : lane.collected ≡ length lane.slips
  pub no_draft : lane.draft ≡ None
  pub no_hold : lane.holds ≡ []

-- a run of a server's model, in which each mailbox has its own quota, over a depot that is large enough and channels
-- with room
pub record IsRunOf (s : Server) (t : Threads) : Type 0 where
  pub blocks : ℕ
  pub start : House
  pub run : List Happened
  pub starts : IsStart blocks start
  pub runs : Run start run
  pub setting : (start.calendar ≡ s.calendar) × (start.site ≡ s.site)
  pub as_many : (length start.boxes ≡ s.boxes) × (length start.lanes ≡ s.lanes)
  pub quotas : (b : ℕ) (box : Box) → BoxIs start b box → box.quota ≡ (t.courses b).quota
  pub offered : (k b : ℕ) → b < s.boxes → offers_by k b (events_of run) ≡ of_lane k (t.courses b).taken
  pub mailboxes : (b : ℕ) (box : Box) → BoxIs (last_house start run) b box → EndsAs (t.courses b) box
  pub lanes : (k : ℕ) (lane : Lane) → LaneIs (last_house start run) k lane → HeardAs (t.heard k) lane

-- what was done in one order gives such a run
abbrev pub AHistoryGivesARun : Type 0
AHistoryGivesARun = (s : Server) (t : Threads) (deeds : List Deed) → IsHistory s t deeds → IsRunOf s t
