-- What is known of a server once all its threads have ended: each thread and each channel by itself.
use Rattle.std.specs.Prelude.{◌≡◌, ℕ, ◌<◌, ◌==◌, if◌then◌else◌, Bool, true, false, List, [], ◌∷◌, flat_map}
use Rattle.std.specs.List.{AllByRecursion}
use Rattle.mail_world.specs.declared.Note.{Note}
use Rattle.mail_world.specs.declared.Slip.{Slip}
use Rattle.mail_world.specs.Slips.{of_worker, slips_from}
use Rattle.mail_world.specs.Lists.{copies, of_lane, copies_owed}
use Rattle.mail_runs.specs.Deeds.{Deed, Gave, Took, Told, Heard, given_in, heard_in, slips_to, turns_of}
use Rattle.mail_runs.specs.Courses.{Server, outcomes_in, IsCourse}
use Rattle.mail_runs.specs.Histories.{Threads, RiseAbove}
use Rattle.mail_runs.specs.Timed.{TimedDeed, Passed, Timed, whats, times, those, gives_to, tells_to, RisesTo, AreTimed}

-- What each thread came to agrees with what the others did. A worker took of each lane just the copies that the lane's
-- transactions owe its mailbox, and a lane heard of each worker just the slips that the worker owes it, in their order.
pub record ComeOut (s : Server) (t : Threads) : Type 0 where
  pub rise : (k : ℕ) → k < s.lanes → RiseAbove 0 (t.transactions k)
  pub courses : (b : ℕ) → b < s.boxes → IsCourse s (t.courses b)
  pub for_boxes : (k : ℕ) → k < s.lanes
      → AllByRecursion (λ note. note.mailbox < s.boxes) (flat_map (copies k) (t.transactions k))
  pub taken : (k b : ℕ) → k < s.lanes → b < s.boxes
      → of_lane k (t.courses b).taken ≡ copies_owed k b (t.transactions k)
  pub taken_only : (b : ℕ) → b < s.boxes → AllByRecursion (λ note. note.txn.lane < s.lanes) (t.courses b).taken
  pub heard : (k b : ℕ) → k < s.lanes → b < s.boxes
      → of_worker b (t.heard k) ≡ slips_to k (slips_from b (outcomes_in (t.courses b).turns) (t.courses b).taken)
  pub heard_only : (k : ℕ) → k < s.lanes → AllByRecursion (λ slip. slip.worker < s.boxes) (t.heard k)

-- when what passed a channel was accepted, and when it was taken
pub record Moments : Type 0 where
  pub accepted : List ℕ
  pub taken : List ℕ

-- each was taken after it was accepted
abbrev pub AreLater : List ℕ → List ℕ → Type 0
AreLater [] [] = Unit {0}
AreLater [] (t ∷ taken) = ⊥
AreLater (a ∷ accepted) [] = ⊥
AreLater (a ∷ accepted) (t ∷ taken) = (a < t) × AreLater accepted taken

-- times of acceptance rise along a channel
pub record HavePassed (at : Moments) : Type 0 where
  pub until : ℕ
  pub rises : RisesTo 0 until at.accepted
  pub later : AreLater at.accepted at.taken

module _ {A : Type 0} where
  -- the times of those that are of k
  abbrev pub times_of : (A → ℕ) → ℕ → List A → List ℕ → List ℕ
  times_of of k [] ts = []
  times_of of k (m ∷ ms) [] = []
  times_of of k (m ∷ ms) (t ∷ ts) = if of m == k then t ∷ times_of of k ms ts else times_of of k ms ts

  abbrev pub passed : List A → List ℕ → List ℕ → List (Passed A)
  passed (m ∷ ms) (t ∷ accepted) (u ∷ taken) = record { what = m; accepted = t; taken = u } ∷ passed ms accepted taken
  passed _ _ _ = []

-- the deeds of lanes, a deed that hears, and one that takes
abbrev pub is_of_lanes : Deed → Bool
is_of_lanes (Gave note) = true
is_of_lanes (Took note) = false
is_of_lanes (Told slip) = false
is_of_lanes (Heard slip) = true

abbrev pub is_heard : Deed → Bool
is_heard (Heard slip) = true
is_heard _ = false

abbrev pub is_taken : Deed → Bool
is_taken (Took note) = true
is_taken _ = false

-- a lane's deeds: it gave these copies, and heard these slips
pub record AreLaneDeeds (notes : List Note) (slips : List Slip) (deeds : List TimedDeed) : Type 0 where
  pub until : ℕ
  pub rises : RisesTo 0 until (times deeds)
  pub only : AllByRecursion (λ deed. is_of_lanes deed ≡ true) (whats deeds)
  pub gave : flat_map given_in (whats deeds) ≡ notes
  pub heard : flat_map heard_in (whats deeds) ≡ slips

-- a worker's
pub record AreWorkerDeeds (turns : List Deed) (deeds : List TimedDeed) : Type 0 where
  pub until : ℕ
  pub rises : RisesTo 0 until (times deeds)
  pub turned : whats deeds ≡ turns

-- what each lane and each worker did, and the moments of each mailbox's channel and of each lane's channel of slips
pub record Known : Type 0 where
  pub lanes : ℕ → List TimedDeed
  pub workers : ℕ → List TimedDeed
  pub copies : ℕ → Moments
  pub slips : ℕ → Moments

-- What a thread gave to a channel was accepted at the times at which it gave it, and what it took of one was taken at
-- the times at which it took it.
pub record AreKnown (s : Server) (t : Threads) (x : Known) : Type 0 where
  pub came_out : ComeOut s t
  pub lanes : (k : ℕ) → k < s.lanes → AreLaneDeeds (flat_map (copies k) (t.transactions k)) (t.heard k) (x.lanes k)
  pub workers : (b : ℕ) → b < s.boxes
      → AreWorkerDeeds (turns_of b (t.courses b).taken (outcomes_in (t.courses b).turns)) (x.workers b)
  pub copies : (b : ℕ) → b < s.boxes → HavePassed (x.copies b)
  pub slips : (k : ℕ) → k < s.lanes → HavePassed (x.slips k)
  pub gave : (k b : ℕ) → k < s.lanes → b < s.boxes
      → times_of (λ note. note.txn.lane) k (t.courses b).taken (x.copies b).accepted
      ≡ times (those (gives_to b) (x.lanes k))
  pub took : (b : ℕ) → b < s.boxes → (x.copies b).taken ≡ times (those is_taken (x.workers b))
  pub told : (k b : ℕ) → k < s.lanes → b < s.boxes
      → times_of (λ slip. slip.worker) b (t.heard k) (x.slips k).accepted ≡ times (those (tells_to k) (x.workers b))
  pub heard : (k : ℕ) → k < s.lanes → (x.slips k).taken ≡ times (those is_heard (x.lanes k))

-- what passed each channel, with its moments
abbrev pub timed_of : Threads → Known → Timed
timed_of t x = record {
  lanes = x.lanes;
  workers = x.workers;
  copies = λ b. passed (t.courses b).taken (x.copies b).accepted (x.copies b).taken;
  slips = λ k. passed (t.heard k) (x.slips k).accepted (x.slips k).taken;
}

-- then the times agree
abbrev pub KnownAreTimed : Type 0
KnownAreTimed = (s : Server) (t : Threads) (x : Known) → AreKnown s t x → AreTimed s t (timed_of t x)
