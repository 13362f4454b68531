-- Whatever is under way can be moved, and by whom.
use Rattle.std.specs.Prelude.{◌≡◌, ◌≢◌, ◌⊎◌, ℕ, Bool, ◌<◌, ◌≤◌, List, [], length, true, false, Some, None, slice_get}
use Rattle.std.specs.Prelude.{◌==◌, ◌&&◌, map}
use Rattle.std.specs.List.{list_any}
use Rattle.mail_world.specs.declared.Txn.{Txn}
use Rattle.mail_world.specs.declared.Event.{Event}
use Rattle.mail_world.specs.declared.Event.TheVariants.{Begin, Put, Cancel, Seal, Split, Offer, HandBack, Collect, Take}
use Rattle.mail_world.specs.declared.Event.TheVariants.{Lock, Miss, Write, Sync, Cut, Unlock, Release, GiveSlip}
use Rattle.mail_world.specs.declared.Event.TheVariants.{Reclaim, Close}
use Rattle.mail_world.specs.Depot.{Key, Slot, Sealed}
use Rattle.mail_world.specs.House.{Hold, Post, Copy, Box, Lane, House, IsStart}
use Rattle.mail_world.specs.Events.{LaneIs, BoxIs, MayHappen}
use Rattle.mail_world.specs.Runs.{Happened, Run, last_house, hold_of, posts_of, is_same_key}
use Rattle.mail_world.specs.Slips.{is_same_txn}
use Rattle.mail_progress.specs.Orderly.{IsInOrder, IsOrderly, not_taken, on_way}
use Rattle.mail_progress.specs.GoingOn.{GoesOn}

-- who takes the step: a lane, a worker, anyone who reclaims the message under the key, or someone outside
pub data Mover : Type 0 where
  LaneOf : (k : ℕ) → Mover
  WorkerOf : (w : ℕ) → Mover
  AnyHolder : (key : Key) → Mover
  Outside : Mover

abbrev pub mover : Event → Mover
mover (Begin k) = LaneOf k
mover (Put k bytes) = LaneOf k
mover (Cancel k) = LaneOf k
mover (Seal k n) = LaneOf k
mover (Split k i) = LaneOf k
mover (Offer k note) = LaneOf k
mover (HandBack k i b) = LaneOf k
mover (Collect k) = LaneOf k
mover (Take w) = WorkerOf w
mover (Lock w bytes) = WorkerOf w
mover (Miss w) = WorkerOf w
mover (Write w bytes) = WorkerOf w
mover (Sync w) = WorkerOf w
mover (Cut w) = WorkerOf w
mover (Unlock w) = WorkerOf w
mover (Release w) = WorkerOf w
mover (GiveSlip w outcome) = WorkerOf w
mover (Reclaim slot generation) = AnyHolder (record { slot = slot; generation = generation })
mover (Close b) = Outside

-- one of these takes a step that goes on
pub record IsMovedBy (Movers : Mover → Type 0) (room : ℕ) (next : ℕ → ℕ) (h : House) : Type 0 where
  pub event : Event
  pub by : Movers (mover event)
  pub goes_on : GoesOn next h event
  pub in_order : IsInOrder room h event
  pub happens : MayHappen h event

abbrev pub TheLane : ℕ → Mover → Type 0
TheLane k who = who ≡ LaneOf k

abbrev pub TheWorker : ℕ → Mover → Type 0
TheWorker w who = who ≡ WorkerOf w

-- the lane has a copy to offer
abbrev pub HasToOffer : House → ℕ → Type 0
HasToOffer h k = (lane : Lane) × LaneIs h k lane × (lane.holds ≢ [])

-- the mailbox's channel is open, and full
abbrev pub IsOpenAndFull : House → ℕ → Type 0
IsOpenAndFull h b = (box : Box) × BoxIs h b box × (box.closed ≡ false) × (h.capacity ≤ not_taken box)

-- the lane; where it has a copy to offer, and the channel of its next one is open and full, that channel's worker too
abbrev pub LaneOrWorker : (ℕ → ℕ) → House → ℕ → Mover → Type 0
LaneOrWorker next h k who = (who ≡ LaneOf k)
    ⊎ (HasToOffer h k × IsOpenAndFull h (next k) × (who ≡ WorkerOf (next k)))

-- the lane has a copy to offer or a slip to collect
abbrev pub IsAtWork : Lane → Type 0
IsAtWork lane = (lane.holds ≢ []) ⊎ (lane.collected < length lane.slips)

-- one of the holds is of the message under the key
abbrev pub HasHold : Key → List Hold → Type 0
HasHold key holds = list_any (λ (hold : Hold). is_same_key hold.key key) holds ≡ true

-- those who move a lane that holds the message under the key, or the worker of a mailbox with a copy of it
abbrev pub IsHolder : (ℕ → Mover → Type 0) → House → Key → Mover → Type 0
IsHolder Movers h key who = ((k : ℕ) × (lane : Lane) × LaneIs h k lane × HasHold key lane.holds × Movers k who)
    ⊎ ((w : ℕ) × (box : Box) × BoxIs h w box × HasHold key (map hold_of (posts_of box)) × (who ≡ WorkerOf w))

-- a copy of the transaction for the place
abbrev is_for : Txn → ℕ → Post → Bool
is_for txn place post = is_same_txn post.note.txn txn && (post.note.place == place)

-- a worker that has the copy for that place of the lane's last message, in hand or to take
abbrev pub HasCopyFor : House → Lane → ℕ → Mover → Type 0
HasCopyFor h lane place who = (w : ℕ) × (box : Box) × BoxIs h w box
    × (list_any (is_for lane.gather.txn place) (on_way box) ≡ true) × (who ≡ WorkerOf w)

-- the next copies are for mailboxes of the house
abbrev pub AreThere : (ℕ → ℕ) → House → Type 0
AreThere next h = (k : ℕ) (lane : Lane) → LaneIs h k lane → (box : Box) × BoxIs h (next k) box

-- who moves each thing that is under way, where these move what a lane has to offer or to collect
pub record NothingStuck (Movers : ℕ → Mover → Type 0) (room : ℕ) (next : ℕ → ℕ) (h : House) : Type 0 where
  -- a draft
  pub draft : (k : ℕ) (lane : Lane) (key : Key) → LaneIs h k lane → lane.draft ≡ Some key
      → IsMovedBy (TheLane k) room next h
  -- a copy to offer
  pub to_offer : (k : ℕ) (lane : Lane) → LaneIs h k lane → lane.holds ≢ [] → IsMovedBy (Movers k) room next h
  -- a copy accepted
  pub accepted : (w : ℕ) (box : Box) → BoxIs h w box → box.taken < length box.accepted
      → IsMovedBy (TheWorker w) room next h
  -- a copy taken, in hand or released, and so a slip to give
  pub in_hand : (w : ℕ) (box : Box) (copy : Copy) → BoxIs h w box → box.hand ≡ Some copy
      → IsMovedBy (TheWorker w) room next h
  -- a slip to collect, which the lane alone does once it has nothing to offer
  pub to_collect : (k : ℕ) (lane : Lane) → LaneIs h k lane → lane.collected < length lane.slips
      → IsMovedBy (Movers k) room next h
  -- an answer not given, in a place of the lane's last message (those before were given when the next one began): once
  -- the lane has nothing to offer or to collect, a worker with the copy for that place moves it
  pub unanswered : (k : ℕ) (lane : Lane) (place : ℕ) → LaneIs h k lane → slice_get lane.gather.places place ≡ Some None
      → IsMovedBy (λ who. (IsAtWork lane × Movers k who) ⊎ ((IsAtWork lane → ⊥) × HasCopyFor h lane place who))
      room next h
  -- a message sealed and not reclaimed: its holders move it, and once it has none, anyone who reclaims this very
  -- message
  pub sealed : (i : ℕ) (slot : Slot) (bytes blocks : List ℕ) (weight : ℕ) → slice_get h.depot.slots i ≡ Some slot
      → slot.held ≡ Sealed bytes blocks weight
      → let key : Key = record { slot = i; generation = slot.generation } in
      IsMovedBy (λ who. ((weight ≡ 0) × (who ≡ AnyHolder key)) ⊎ ((1 ≤ weight) × IsHolder Movers h key who)) room next h

-- so it is in each house of each orderly run, where channels have a capacity, lanes room for slips, and the next copies
-- mailboxes of the house
abbrev pub NothingIsStuck : Type 0
NothingIsStuck = (room blocks : ℕ) (start : House) (run : List Happened) → IsStart blocks start → Run start run
    → IsOrderly room start run → 1 ≤ room → 1 ≤ start.capacity
    → (next : ℕ → ℕ) → AreThere next (last_house start run)
    → NothingStuck (LaneOrWorker next (last_house start run)) room next (last_house start run)

abbrev pub AreClosed : House → Type 0
AreClosed h = (b : ℕ) (box : Box) → BoxIs h b box → box.closed ≡ true

-- closed channels stay so, whatever follows
abbrev pub ClosedStays : Type 0
ClosedStays = (h : House) (run : List Happened) → Run h run → AreClosed h → AreClosed (last_house h run)

-- where all channels are closed, a lane waits for nobody, and no capacity is needed
abbrev pub NothingIsStuckWhenClosed : Type 0
NothingIsStuckWhenClosed = (room blocks : ℕ) (start : House) (run : List Happened) → IsStart blocks start
    → Run start run → IsOrderly room start run → 1 ≤ room
    → (next : ℕ → ℕ) → AreThere next (last_house start run) → AreClosed (last_house start run)
    → NothingStuck TheLane room next (last_house start run)
