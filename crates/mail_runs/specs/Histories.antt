-- All that the threads of a server did, in one order.
use Rattle.std.specs.Prelude.{◌≡◌, ⊤, ℕ, ◌+◌, ◌<◌, ◌≤◌, List, [], ◌∷◌, ◌++◌, length, flat_map}
use Rattle.std.specs.List.{AllByRecursion}
use Rattle.mail_world.specs.declared.Slip.{Slip}
use Rattle.mail_world.specs.Lists.{Transaction, copies}
use Rattle.mail_runs.specs.Deeds.{Deed, Gave, Took, Told, Heard, given_by, given_to, taken_by, told_to, heard_by}
use Rattle.mail_runs.specs.Deeds.{worked_by, turns_of}
use Rattle.mail_runs.specs.Courses.{Server, Course, outcomes_in, IsCourse}

-- what the threads came to: the transactions of each lane, the slips that it heard, and each mailbox
pub record Threads : Type 0 where
  pub transactions : ℕ → List Transaction
  pub heard : ℕ → List Slip
  pub courses : ℕ → Course

-- the numbers of the transactions rise above n
abbrev pub RiseAbove : ℕ → List Transaction → Type 0
RiseAbove n [] = ⊤
RiseAbove n (t ∷ ts) = (n < t.number) × RiseAbove t.number ts

-- the deed's lane and mailbox are of the server
abbrev pub IsWithin : Server → Deed → Type 0
IsWithin s (Gave note) = (note.txn.lane < s.lanes) × (note.mailbox < s.boxes)
IsWithin s (Took note) = (note.txn.lane < s.lanes) × (note.mailbox < s.boxes)
IsWithin s (Told slip) = (slip.txn.lane < s.lanes) × (slip.worker < s.boxes)
IsWithin s (Heard slip) = (slip.txn.lane < s.lanes) × (slip.worker < s.boxes)

-- at no time were more copies taken from the mailbox's channel than it had accepted, where that many waited at first
abbrev pub TakesGiven : ℕ → ℕ → List Deed → Type 0
TakesGiven b waiting deeds = (before after : List Deed) → deeds ≡ before ++ after
    → length (taken_by b before) ≤ waiting + length (given_to b before)

-- nor more slips from the lane's
abbrev pub HearsTold : ℕ → ℕ → List Deed → Type 0
HearsTold k waiting deeds = (before after : List Deed) → deeds ≡ before ++ after
    → length (heard_by k before) ≤ waiting + length (told_to k before)

-- The deeds stand in the order of each thread: a lane gave the copies of its transactions in their order, a worker told
-- of each copy before it took the next. And in that of each channel: what it accepted is what was taken of it, and
-- nothing was taken before it was accepted.
pub record IsHistory (s : Server) (t : Threads) (deeds : List Deed) : Type 0 where
  pub within : AllByRecursion (IsWithin s) deeds
  pub lanes : (k : ℕ) → k < s.lanes → given_by k deeds ≡ flat_map (copies k) (t.transactions k)
  pub rise : (k : ℕ) → k < s.lanes → RiseAbove 0 (t.transactions k)
  pub workers : (b : ℕ) → b < s.boxes
      → worked_by b deeds ≡ turns_of b (t.courses b).taken (outcomes_in (t.courses b).turns)
  pub courses : (b : ℕ) → b < s.boxes → IsCourse s (t.courses b)
  pub accepted : (b : ℕ) → b < s.boxes → given_to b deeds ≡ (t.courses b).taken
  pub told : (k : ℕ) → k < s.lanes → told_to k deeds ≡ t.heard k
  pub heard : (k : ℕ) → k < s.lanes → heard_by k deeds ≡ t.heard k
  pub taken_later : (b : ℕ) → b < s.boxes → TakesGiven b 0 deeds
  pub heard_later : (k : ℕ) → k < s.lanes → HearsTold k 0 deeds
