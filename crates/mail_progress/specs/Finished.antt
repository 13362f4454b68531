-- What a house has come to where nothing is under way.
use Rattle.std.specs.Prelude.{◌≡◌, ◌⊎◌, ℕ, ◌≤◌, ◌==◌, List, [], ◌∷◌, length, map, flat_map, Some, None, slice_get}
use Rattle.std.specs.Prelude.{nat_lt, if◌then◌else◌}
use Rattle.std.specs.List.{AllByRecursion}
use Rattle.mail_world.specs.declared.Event.{Event}
use Rattle.mail_world.specs.declared.Event.TheVariants.{Seal}
use Rattle.mail_world.specs.Depot.{Slot, Sealed, occurrences}
use Rattle.mail_world.specs.House.{Box, SealedMessage, Lane, House, IsStart}
use Rattle.mail_world.specs.Slips.{answers, txn_of}
use Rattle.mail_world.specs.Events.{LaneIs, BoxIs}
use Rattle.mail_world.specs.Runs.{Happened, Run, last_house, events_of}
use Rattle.mail_progress.specs.Orderly.{HasOutcome, IsOrderly}
use Rattle.mail_progress.specs.GoingOn.{MayGoOn}
use Rattle.mail_progress.specs.NothingStuck.{AreThere, AreClosed}

-- for how many copies the lane sealed each of its messages
abbrev pub sealed_by : ℕ → Event → List ℕ
sealed_by k (Seal lane n) = if lane == k then n ∷ [] else []
sealed_by k _ = []

abbrev pub copies_sealed : ℕ → List Event → List ℕ
copies_sealed k events = flat_map (sealed_by k) events

-- nothing is under way after these events
pub record IsFinished (blocks : ℕ) (events : List Event) (h : House) : Type 0 where
  pub no_draft : (k : ℕ) (lane : Lane) → LaneIs h k lane → lane.draft ≡ None
  pub none_to_offer : (k : ℕ) (lane : Lane) → LaneIs h k lane → lane.holds ≡ []
  pub drained : (w : ℕ) (box : Box) → BoxIs h w box → box.taken ≡ length box.accepted
  pub free_hand : (w : ℕ) (box : Box) → BoxIs h w box → box.hand ≡ None
  pub collected : (k : ℕ) (lane : Lane) → LaneIs h k lane → lane.collected ≡ length lane.slips
  -- of each message as many copies were given away as it was sealed for, and each place has its answer
  pub given_away : (k : ℕ) (lane : Lane) → LaneIs h k lane → map (λ t. t.offered) lane.messages ≡ copies_sealed k events
  pub answered : (k : ℕ) (lane : Lane) (i : ℕ) (t : SealedMessage) → LaneIs h k lane
      → slice_get lane.messages i ≡ Some t
      → AllByRecursion HasOutcome (answers (txn_of k t.number) t.offered lane.heard)
  -- those of the last one are with the gatherer
  pub gathered : (k : ℕ) (lane : Lane) → LaneIs h k lane → AllByRecursion HasOutcome lane.gather.places
  pub reclaimed : (i : ℕ) (slot : Slot) (bytes its : List ℕ) (weight : ℕ) → slice_get h.depot.slots i ≡ Some slot
      → slot.held ≡ Sealed bytes its weight → ⊥
  pub all_free : (x : ℕ) → occurrences x h.depot.free ≡ (if nat_lt x blocks then 1 else 0)

-- where none of these events may follow, all is finished
abbrev pub EndsFinished : Type 0
EndsFinished = (room blocks : ℕ) (start : House) (run : List Happened) → IsStart blocks start → Run start run
    → IsOrderly room start run → 1 ≤ room
    → let h = last_house start run in (1 ≤ start.capacity) ⊎ AreClosed h
    → (next : ℕ → ℕ) → AreThere next h → (MayGoOn room next h → ⊥) → IsFinished blocks (events_of run) h

-- and where all is finished, none of them may
abbrev pub FinishedIsStill : Type 0
FinishedIsStill = (room blocks : ℕ) (next : ℕ → ℕ) (events : List Event) (h : House) → IsFinished blocks events h
    → MayGoOn room next h → ⊥
