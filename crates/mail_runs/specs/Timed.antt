-- Deeds with the times at which they were done, thread by thread and channel by channel.
use Rattle.std.specs.Prelude.{◌≡◌, ℕ, ◌<◌, ◌≤◌, ◌==◌, Bool, false, List, [], ◌∷◌, map, filter, flat_map}
use Rattle.std.specs.List.{AllByRecursion}
use Rattle.mail_world.specs.declared.Note.{Note}
use Rattle.mail_world.specs.declared.Slip.{Slip}
use Rattle.mail_world.specs.Lists.{copies}
use Rattle.mail_runs.specs.Deeds.{Deed, Gave, Took, Told, Heard, given_in, heard_in, is_of_worker, turns_of}
use Rattle.mail_runs.specs.Courses.{Server, outcomes_in, IsCourse}
use Rattle.mail_runs.specs.Histories.{Threads, RiseAbove, IsWithin, IsHistory}

-- a deed, and when it was done: what a thread gives to a channel is given when the channel accepts it
pub record TimedDeed : Type 0 where
  pub what : Deed
  pub at : ℕ

-- a copy or a slip that passed a channel: when the channel accepted it, and when it was taken
pub record Passed (A : Type 0) : Type 0 where
  pub what : A
  pub accepted : ℕ
  pub taken : ℕ

-- what each lane and each worker did, in its order, and what passed each mailbox's channel and each lane's channel of
-- slips, in its order
pub record Timed : Type 0 where
  pub lanes : ℕ → List TimedDeed
  pub workers : ℕ → List TimedDeed
  pub copies : ℕ → List (Passed Note)
  pub slips : ℕ → List (Passed Slip)

abbrev pub whats : List TimedDeed → List Deed
whats deeds = map (λ d. d.what) deeds

abbrev pub times : List TimedDeed → List ℕ
times deeds = map (λ d. d.at) deeds

-- those of the deeds that pass a test
abbrev pub those : (Deed → Bool) → List TimedDeed → List TimedDeed
those test deeds = filter (λ d. test d.what) deeds

-- a lane's deed; a deed that gives to a mailbox, and one that takes from it; one that tells a lane, and one that hears
abbrev pub is_of_lane : ℕ → Deed → Bool
is_of_lane k (Gave note) = note.txn.lane == k
is_of_lane k (Heard slip) = slip.txn.lane == k
is_of_lane k _ = false

abbrev pub gives_to : ℕ → Deed → Bool
gives_to b (Gave note) = note.mailbox == b
gives_to b _ = false

abbrev pub takes_from : ℕ → Deed → Bool
takes_from b (Took note) = note.mailbox == b
takes_from b _ = false

abbrev pub tells_to : ℕ → Deed → Bool
tells_to k (Told slip) = slip.txn.lane == k
tells_to k _ = false

abbrev pub hears_from : ℕ → Deed → Bool
hears_from k (Heard slip) = slip.txn.lane == k
hears_from k _ = false

-- what passed a channel, as the deeds of those that gave it and of those that took it
abbrev pub accepted_by : {A : Type 0} → (A → Deed) → List (Passed A) → List TimedDeed
accepted_by deed passed = map (λ p. record { what = deed p.what; at = p.accepted }) passed

abbrev pub taken_of : {A : Type 0} → (A → Deed) → List (Passed A) → List TimedDeed
taken_of deed passed = map (λ p. record { what = deed p.what; at = p.taken }) passed

-- each time is after the one before it, the first after lo, and none after hi
abbrev pub RisesTo : ℕ → ℕ → List ℕ → Type 0
RisesTo lo hi [] = lo ≤ hi
RisesTo lo hi (x ∷ xs) = (lo < x) × RisesTo x hi xs

-- Times rise along each thread, and those of acceptance along each channel; each copy and slip was taken after it
-- was accepted. What a thread gave to a channel is what the channel accepted of it, at the same times, and what it took
-- is what was taken of the channel.
pub record TimesAgree (s : Server) (x : Timed) : Type 0 where
  pub until : ℕ
  pub lanes_rise : (k : ℕ) → k < s.lanes → RisesTo 0 until (times (x.lanes k))
  pub workers_rise : (b : ℕ) → b < s.boxes → RisesTo 0 until (times (x.workers b))
  pub copies_rise : (b : ℕ) → b < s.boxes → RisesTo 0 until (times (accepted_by Gave (x.copies b)))
  pub slips_rise : (k : ℕ) → k < s.lanes → RisesTo 0 until (times (accepted_by Told (x.slips k)))
  pub copies_later : (b : ℕ) → b < s.boxes → AllByRecursion (λ p. p.accepted < p.taken) (x.copies b)
  pub slips_later : (k : ℕ) → k < s.lanes → AllByRecursion (λ p. p.accepted < p.taken) (x.slips k)
  pub gave : (k b : ℕ) → k < s.lanes → b < s.boxes
      → those (gives_to b) (x.lanes k) ≡ those (is_of_lane k) (accepted_by Gave (x.copies b))
  pub took : (b : ℕ) → b < s.boxes → those (takes_from b) (x.workers b) ≡ taken_of Took (x.copies b)
  pub told : (k b : ℕ) → k < s.lanes → b < s.boxes
      → those (tells_to k) (x.workers b) ≡ those (is_of_worker b) (accepted_by Told (x.slips k))
  pub heard : (k : ℕ) → k < s.lanes → those (hears_from k) (x.lanes k) ≡ taken_of Heard (x.slips k)

-- What each thread did is its own and of the server. Each lane gave the copies of its transactions in their order, and
-- each worker told of each copy before it took the next.
pub record AreTimed (s : Server) (t : Threads) (x : Timed) : Type 0 where
  pub agree : TimesAgree s x
  pub of_lanes : (k : ℕ) → k < s.lanes → those (is_of_lane k) (x.lanes k) ≡ x.lanes k
  pub of_workers : (b : ℕ) → b < s.boxes → those (is_of_worker b) (x.workers b) ≡ x.workers b
  pub lanes_within : (k : ℕ) → k < s.lanes → AllByRecursion (IsWithin s) (whats (x.lanes k))
  pub workers_within : (b : ℕ) → b < s.boxes → AllByRecursion (IsWithin s) (whats (x.workers b))
  pub lanes : (k : ℕ) → k < s.lanes → flat_map given_in (whats (x.lanes k)) ≡ flat_map (copies k) (t.transactions k)
  pub rise : (k : ℕ) → k < s.lanes → RiseAbove 0 (t.transactions k)
  pub heard : (k : ℕ) → k < s.lanes → flat_map heard_in (whats (x.lanes k)) ≡ t.heard k
  pub workers : (b : ℕ) → b < s.boxes
      → whats (x.workers b) ≡ turns_of b (t.courses b).taken (outcomes_in (t.courses b).turns)
  pub courses : (b : ℕ) → b < s.boxes → IsCourse s (t.courses b)

-- then there is an order
abbrev pub TimesGiveAHistory : Type 0
TimesGiveAHistory = (s : Server) (t : Threads) (x : Timed) → AreTimed s t x → (deeds : List Deed) × IsHistory s t deeds
