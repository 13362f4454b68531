-- A server with one lane, and an order of all that its threads did.
use Rattle.std.specs.Prelude.{◌≡◌, ℕ, ◌<◌, List, flat_map}
use Rattle.std.specs.List.{AllByRecursion}
use Rattle.mail_world.specs.Slips.{of_worker, slips_from}
use Rattle.mail_world.specs.Lists.{copies, copies_owed}
use Rattle.mail_runs.specs.Deeds.{Deed}
use Rattle.mail_runs.specs.Courses.{Server, outcomes_in, IsCourse}
use Rattle.mail_runs.specs.Histories.{Threads, RiseAbove, IsHistory}

-- what a server with one lane came to: each worker took the copies that the lane's transactions owe its mailbox, and
-- the lane heard, of each worker, the slips for these in their order, and no other slips
pub record IsOfOneLane (s : Server) (t : Threads) : Type 0 where
  pub lanes : s.lanes ≡ 1
  pub rise : RiseAbove 0 (t.transactions 0)
  pub courses : (b : ℕ) → b < s.boxes → IsCourse s (t.courses b)
  pub for_boxes : AllByRecursion (λ note. note.mailbox < s.boxes) (flat_map (copies 0) (t.transactions 0))
  pub taken : (b : ℕ) → b < s.boxes → (t.courses b).taken ≡ copies_owed 0 b (t.transactions 0)
  pub told : (b : ℕ) → b < s.boxes
      → of_worker b (t.heard 0) ≡ slips_from b (outcomes_in (t.courses b).turns) (t.courses b).taken
  pub told_only : AllByRecursion (λ slip. slip.worker < s.boxes) (t.heard 0)

-- then there is an order
abbrev pub OneLaneHasAHistory : Type 0
OneLaneHasAHistory = (s : Server) (t : Threads) → IsOfOneLane s t → (deeds : List Deed) × IsHistory s t deeds
