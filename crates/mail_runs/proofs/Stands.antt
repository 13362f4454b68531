-- Where a house stands while the deeds are played: of each lane and of each mailbox, what is left of theirs.
use Rattle.std.proofs.Common.{◌≡◌, ◌⊎◌, ℕ, ◌+◌, ◌-◌, ◌≤◌, List, [], ◌∷◌, ◌++◌, length, drop, true, false, Option, Some, None}
use Rattle.std.specs.Prelude.{flat_map, slice_get, sum_by}
use Rattle.std.specs.List.{AllByRecursion}
use Rattle.mail_world.specs.declared.Note.{Note}
use Rattle.mail_world.specs.declared.Slip.{Slip}
use Rattle.mail_world.specs.Turns.{HaveTurns, AllKeep, left_by}
use Rattle.mail_world.specs.Turns.{Told as HadTurn}
use Rattle.mail_world.specs.Slips.{slip_of}
use Rattle.mail_world.specs.Lists.{Transaction, copies, copies_from}
use Rattle.mail_world.specs.Depot.{Key, Depot, Slot, Held, Free, Draft, Sealed, Retired, blocks_for}
use Rattle.mail_world.specs.House.{House, Lane, Box, Copy, notes_of}
use Rattle.mail_world.specs.Events.{LaneIs, BoxIs, outcome_of, sealed_up_to}
use Rattle.mail_runs.specs.Deeds.{Deed, Gave, Told, given_by, given_to, told_to, heard_by, worked_by, turns_of}
use Rattle.mail_runs.specs.Courses.{Server, Course, outcomes_in}
use Rattle.mail_runs.specs.RunOf.{kept_by}
use Rattle.mail_runs.specs.Histories.{Threads, RiseAbove, IsWithin, TakesGiven, HearsTold}
use Rattle.mail_runs.specs.Ordered.{done_by, FindsRoom}
use Rattle.mail_runs.proofs.Manners.{Manner, Owed}
use Rattle.mail_runs.proofs.Exchanges.{KeepsExchange}

-- what is left of a worker's deeds: the slip of the copy in hand, and the copies that it has yet to take
abbrev pub BeginsCopy : ℕ → List Deed → List Deed → Option Copy → Type 0
BeginsCopy b all turns None = all ≡ turns
BeginsCopy b all turns (Some copy) = (copy.released ≡ true) × (all ≡ Told (slip_of b copy.post.note (outcome_of copy)) ∷ turns)

-- the turns that are left of a course, where the mailbox holds these bytes, keeps so many and had these turns
pub record TurnsLeft (s : Server) (course : Course) (notes : List Note) (turns : List HadTurn) (spool : List ℕ) (kept : ℕ) (had : List HadTurn) : Type 0 where
  pub have : HaveTurns s.calendar s.site course.quota notes turns
  pub keep : AllKeep turns
  pub all : had ++ turns ≡ course.turns
  pub bytes : left_by spool turns ≡ left_by course.old course.turns
  pub synced : kept_by kept turns ≡ kept_by 0 course.turns

pub record WorkLeft (s : Server) (b : ℕ) (course : Course) (left : List Deed) (box : Box) : Type 0 where
  pub notes : List Note
  pub turns : List HadTurn
  pub program : BeginsCopy b (worked_by b left) (turns_of b notes (outcomes_in turns)) box.hand
  pub queue : notes_of (drop box.taken box.accepted) ++ given_to b left ≡ notes
  pub takes : TurnsLeft s course notes turns box.spool box.kept box.turns

-- what is left of the deeds takes what the channel has accepted by then, and gives where it has room, where that many copies wait
pub record Flows (capacity b waiting : ℕ) (left : List Deed) : Type 0 where
  pub taken_later : TakesGiven b waiting left
  pub finds_room : FindsRoom capacity b waiting left

-- a mailbox
pub record BoxStands (s : Server) (capacity b : ℕ) (course : Course) (left : List Deed) (box : Box) : Type 0 where
  pub quota : box.quota ≡ course.quota
  pub old : box.old ≡ course.old
  pub still_open : box.closed ≡ false
  pub prefix : box.taken ≤ length box.accepted
  pub all : notes_of box.accepted ++ given_to b left ≡ course.taken
  pub flows : Flows capacity b (length box.accepted - box.taken) left
  pub work : WorkLeft s b course left box

-- a lane with nothing to give away, which may begin its next transactions
pub record IsIdle (m : Manner) (k : ℕ) (left : List Deed) (lane : Lane) : Type 0 where
  pub ts : List Transaction
  pub no_hold : lane.holds ≡ []
  pub gives : given_by k left ≡ flat_map (copies k) ts
  pub rise : RiseAbove lane.number ts
  pub keeps : Owed m → KeepsExchange m.room k [] ts lane.gather (done_by k left)

-- a lane with a message of which copies are left
pub record IsGiving (m : Manner) (k : ℕ) (left : List Deed) (lane : Lane) : Type 0 where
  pub key : Key
  pub t : Transaction
  pub place : ℕ
  pub box : ℕ
  pub boxes : List ℕ
  pub at : ℕ
  pub ts : List Transaction
  pub hold : lane.holds ≡ record { key = key; weight = length boxes + 1 } ∷ []
  pub message : slice_get lane.messages at ≡ Some (sealed_up_to key t.number t.message place)
  pub gives : given_by k left ≡ copies_from k t place (box ∷ boxes) ++ flat_map (copies k) ts
  pub rise : RiseAbove lane.number ts
  pub keeps : Owed m → KeepsExchange m.room k (copies_from k t place (box ∷ boxes)) ts lane.gather (done_by k left)

-- a lane
pub record LaneStands (m : Manner) (k : ℕ) (heard : List Slip) (left : List Deed) (lane : Lane) : Type 0 where
  pub no_draft : lane.draft ≡ None
  pub within : lane.collected ≤ length lane.slips
  pub queue : drop lane.collected lane.slips ++ told_to k left ≡ heard_by k left
  pub all_told : lane.slips ++ told_to k left ≡ heard
  pub all_heard : lane.heard ++ heard_by k left ≡ heard
  pub fed : HearsTold k (length lane.slips - lane.collected) left
  pub gives : IsIdle m k left lane ⊎ IsGiving m k left lane

-- a slot and as many blocks as its message takes for each copy that is left to give, which is more than are needed
abbrev pub slots_for : Deed → ℕ
slots_for (Gave note) = 1
slots_for _ = 0

abbrev pub blocks_to_give : Deed → ℕ
blocks_to_give (Gave note) = blocks_for (length note.message)
blocks_to_give _ = 0

abbrev pub one_if_free : Held → ℕ
one_if_free Free = 1
one_if_free (Draft bytes blocks) = 0
one_if_free (Sealed bytes blocks weight) = 0
one_if_free Retired = 0

abbrev pub free_slot : Slot → ℕ
free_slot slot = one_if_free slot.held

pub record DepotStands (left : List Deed) (d : Depot) : Type 0 where
  pub slots : sum_by slots_for left ≤ sum_by free_slot d.slots
  pub blocks : sum_by blocks_to_give left ≤ length d.free

-- the house
pub record Stands (m : Manner) (s : Server) (t : Threads) (left : List Deed) (h : House) : Type 0 where
  pub setting : (h.calendar ≡ s.calendar) × (h.site ≡ s.site)
  pub as_many : (length h.boxes ≡ s.boxes) × (length h.lanes ≡ s.lanes)
  pub within : AllByRecursion (IsWithin s) left
  pub boxes : (b : ℕ) (box : Box) → BoxIs h b box → BoxStands s h.capacity b (t.courses b) left box
  pub lanes : (k : ℕ) (lane : Lane) → LaneIs h k lane → LaneStands m k (t.heard k) left lane
  pub depot : DepotStands left h.depot
