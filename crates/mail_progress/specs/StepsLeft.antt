-- How many events there may still be before a lane begins another message: a number that each of them lowers.
use Rattle.std.specs.Prelude.{⊤, ℕ, ◌+◌, ◌-◌, ◌*◌, ◌<◌, ◌≤◌, List, [], ◌∷◌, ◌++◌, length, drop, sum_by, if◌then◌else◌}
use Rattle.std.specs.Prelude.{Option, Some, None}
use Rattle.mail_world.specs.declared.limits.TheConstants.{BLOCK_SIZE}
use Rattle.mail_world.specs.declared.Event.{Event}
use Rattle.mail_world.specs.declared.Event.TheVariants.{Begin, Put, Offer, Write}
use Rattle.mail_world.specs.declared.Note.{Note}
use Rattle.mail_world.specs.Records.{record_of}
use Rattle.mail_world.specs.Depot.{Held, Free, Draft, Sealed, Retired}
use Rattle.mail_world.specs.House.{Hold, Progress, Taken, Going, Full, Synced, CutBack, Done, Copy, Box, Lane, House}
use Rattle.mail_world.specs.House.{IsStart}
use Rattle.mail_world.specs.Events.{Step, added}
use Rattle.mail_world.specs.Runs.{Happened, Run, last_house}
use Rattle.mail_progress.specs.Orderly.{uncollected, IsInOrder, IsOrderly}

abbrev pub size : House → Note → ℕ
size h note = length (record_of h.calendar h.site note)

-- what mends a mailbox has this many bytes at most
abbrev pub most_that_mends : ℕ
most_that_mends = 44

-- a copy that a channel accepted is taken and locked or missed, what mends the mailbox and its record are written at
-- least one byte at a time and synced or cut off again, it is unlocked and released, and its slip is given and
-- collected
abbrev pub steps_of_copy : ℕ → ℕ
steps_of_copy size = size + most_that_mends + 7

-- of these what is left once its turn has come so far
abbrev pub steps_of_turn : House → Note → Progress → ℕ
steps_of_turn h note Taken = size h note + most_that_mends + 6
steps_of_turn h note (Going lock written) = (length (added h note lock.bytes) - written) + 5
steps_of_turn h note (Full lock) = 4
steps_of_turn h note (Synced lock) = 4
steps_of_turn h note (CutBack lock) = 4
steps_of_turn h note (Done outcome) = 3

abbrev pub steps_in_hand : House → Option Copy → ℕ
steps_in_hand h None = 0
steps_in_hand h (Some copy) = if copy.released then 2 else steps_of_turn h copy.post.note copy.progress

-- a hold's weight is split into ones, and each is a copy to offer
abbrev pub steps_of_one : ℕ → ℕ
steps_of_one bound = steps_of_copy bound + 2

abbrev pub steps_of_hold : ℕ → Hold → ℕ
steps_of_hold bound hold = hold.weight * steps_of_one bound - 1

abbrev pub steps_of_lane : ℕ → Lane → ℕ
steps_of_lane bound lane = sum_by (steps_of_hold bound) lane.holds + uncollected lane

abbrev pub steps_of_box : House → Box → ℕ
steps_of_box h box =
    sum_by (λ post. steps_of_copy (size h post.note)) (drop box.taken box.accepted) + steps_in_hand h box.hand
    + (if box.closed then 0 else 1)

-- a draft grows by at least one byte at a time, is sealed with at most as many copies as there is room for slips,
-- and is reclaimed
abbrev pub steps_of_slot : ℕ → ℕ → ℕ → Held → ℕ
steps_of_slot blocks room bound Free = 0
steps_of_slot blocks room bound (Draft bytes in_blocks) =
    (blocks * BLOCK_SIZE - length bytes) + room * steps_of_one bound + 2
steps_of_slot blocks room bound (Sealed bytes in_blocks weight) = 1
steps_of_slot blocks room bound Retired = 0

abbrev pub steps_left : ℕ → ℕ → ℕ → House → ℕ
steps_left blocks room bound h =
    sum_by (λ slot. steps_of_slot blocks room bound slot.held) h.depot.slots
    + sum_by (steps_of_lane bound) h.lanes + sum_by (steps_of_box h) h.boxes

-- the event begins no message and adds some bytes where it adds bytes, and a copy that it offers has a record within
-- the bound
abbrev pub IsBounded : ℕ → House → Event → Type 0
IsBounded bound h (Begin k) = ⊥
IsBounded bound h (Put k bytes) = 1 ≤ length bytes
IsBounded bound h (Write w bytes) = 1 ≤ length bytes
IsBounded bound h (Offer k note) = size h note ≤ bound
IsBounded bound h _ = ⊤

abbrev pub AreBounded : ℕ → House → List Happened → Type 0
AreBounded bound h [] = ⊤
AreBounded bound h (x ∷ xs) = IsBounded bound h x.event × AreBounded bound x.house xs

-- each such event of an orderly run lowers the number
abbrev pub EachLowers : Type 0
EachLowers = (room blocks bound : ℕ) (start : House) (run : List Happened) (event : Event) (new : House)
    → IsStart blocks start → Run start run → IsOrderly room start run
    → let h = last_house start run in Step h event new → IsInOrder room h event → IsBounded bound h event
    → steps_left blocks room bound new < steps_left blocks room bound h

-- so there are at most that many of them
abbrev pub EveryRunEnds : Type 0
EveryRunEnds = (room blocks bound : ℕ) (start : House) (before after : List Happened) → IsStart blocks start
    → Run start (before ++ after) → IsOrderly room start (before ++ after)
    → let h = last_house start before in AreBounded bound h after
    → length after + steps_left blocks room bound (last_house h after) ≤ steps_left blocks room bound h
