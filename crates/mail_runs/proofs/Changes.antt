-- What of a house stands after a deed that changes one mailbox, one lane, or none.
use Rattle.std.proofs.Common.{◌≡◌, ◌≢◌, ℕ, ◌<◌, List, ◌∷◌, length, Some, ◌∙◌, arith}
use Rattle.std.specs.Prelude.{slice_get, slice_set}
use Rattle.mail_world.specs.House.{Lane, Box, House}
use Rattle.mail_world.specs.Events.{LaneIs, BoxIs}
use Rattle.mail_world.proofs.LastSeal.{length_set}
use Rattle.mail_world.proofs.OtherSteps.{there_is}
use Rattle.mail_runs.specs.Deeds.{Deed}
use Rattle.mail_runs.specs.Courses.{Server}
use Rattle.mail_runs.specs.Histories.{Threads}
use Rattle.mail_runs.proofs.Parts.{each_set}
use Rattle.mail_runs.proofs.Manners.{Manner}
use Rattle.mail_runs.proofs.Stands.{BoxStands, LaneStands}
use Rattle.mail_runs.proofs.Frames.{IsPastBox, IsPastLane, box_past, lane_past}

-- all mailboxes, and all lanes; `Stands` has them of its house
abbrev pub AllBoxesStand : Server → Threads → ℕ → List Deed → List Box → Type 0
AllBoxesStand s t capacity left boxes = (b : ℕ) (box : Box) → slice_get boxes b ≡ Some box → BoxStands s capacity b (t.courses b) left box

abbrev pub AllLanesStand : Manner → Threads → List Deed → List Lane → Type 0
AllLanesStand m t left lanes = (k : ℕ) (lane : Lane) → slice_get lanes k ≡ Some lane → LaneStands m k (t.heard k) left lane

-- none changes
pub no_box : (s : Server) (t : Threads) (capacity : ℕ) (d : Deed) (rest : List Deed) (boxes : List Box) → ((b : ℕ) → IsPastBox b d)
    → AllBoxesStand s t capacity (d ∷ rest) boxes
    → AllBoxesStand s t capacity rest boxes
no_box s t capacity d rest boxes past all b box is = box_past s capacity b (t.courses b) d rest box (past b) (all b box is)

pub no_lane : {m : Manner} (t : Threads) (d : Deed) (rest : List Deed) (lanes : List Lane) → ((k : ℕ) → IsPastLane k d) → AllLanesStand m t (d ∷ rest) lanes
    → AllLanesStand m t rest lanes
no_lane t d rest lanes past all k lane is = lane_past k (t.heard k) d rest lane (past k) (all k lane is)

-- one does
pub one_box : (s : Server) (t : Threads) (capacity : ℕ) (d : Deed) (rest : List Deed) (boxes : List Box) (b : ℕ) (changed : Box)
    → ((c : ℕ) → c ≢ b → IsPastBox c d)
    → BoxStands s capacity b (t.courses b) rest changed → AllBoxesStand s t capacity (d ∷ rest) boxes
    → AllBoxesStand s t capacity rest (slice_set boxes b changed)
one_box s t capacity d rest boxes b changed past here all =
    each_set (λ n x. BoxStands s capacity n (t.courses n) rest x) boxes b changed
    (λ c x other was. box_past s capacity c (t.courses c) d rest x (past c other) (all c x was)) here

pub one_lane : {m : Manner} (t : Threads) (d : Deed) (rest : List Deed) (lanes : List Lane) (k : ℕ) (changed : Lane) → ((c : ℕ) → c ≢ k → IsPastLane c d)
    → LaneStands m k (t.heard k) rest changed → AllLanesStand m t (d ∷ rest) lanes → AllLanesStand m t rest (slice_set lanes k changed)
one_lane {m} t d rest lanes k changed past here all =
    each_set (λ n x. LaneStands m n (t.heard n) rest x) lanes k changed (λ c x other was. lane_past c (t.heard c) d rest x (past c other) (all c x was)) here

-- a list has as many after an element was written
pub as_many_set : {A : Type 0} (xs : List A) (i n : ℕ) (x : A) → length xs ≡ n → length (slice_set xs i x) ≡ n
as_many_set xs i n x e = length_set xs i x ∙ e

-- the mailbox or the lane of a deed within the server
pub box_there : (h : House) (n b : ℕ) → length h.boxes ≡ n → b < n → (box : Box) × BoxIs h b box
box_there h n b many low = there_is h.boxes b (omega arith)

pub lane_there : (h : House) (n k : ℕ) → length h.lanes ≡ n → k < n → (lane : Lane) × LaneIs h k lane
lane_there h n k many low = there_is h.lanes k (omega arith)
