-- Orderly runs: the order in which a running lane goes, over channels with room.
use Rattle.std.specs.Prelude.{◌≡◌, ⊤, ℕ, ◌-◌, ◌<◌, ◌≤◌, List, [], ◌∷◌, ◌++◌, length, drop, Option, Some, None}
use Rattle.std.specs.Prelude.{slice_get, IfSome}
use Rattle.std.specs.List.{AllByRecursion}
use Rattle.mail_world.specs.declared.Outcome.{Outcome}
use Rattle.mail_world.specs.declared.Event.{Event}
use Rattle.mail_world.specs.declared.Event.TheVariants.{Begin, Seal, Offer, Collect, GiveSlip}
use Rattle.mail_world.specs.House.{Post, Copy, Box, Lane, House}
use Rattle.mail_world.specs.Runs.{Happened}

abbrev pub OfLane : House → ℕ → (Lane → Type 0) → Type 0
OfLane h k P = IfSome (slice_get h.lanes k) P

abbrev pub OfBox : House → ℕ → (Box → Type 0) → Type 0
OfBox h b P = IfSome (slice_get h.boxes b) P

-- the place has its outcome
abbrev pub HasOutcome : Option Outcome → Type 0
HasOutcome None = ⊥
HasOutcome (Some outcome) = ⊤

-- nothing is left of the lane's last message
pub record IsLaneDone (lane : Lane) : Type 0 where
  pub given_away : lane.holds ≡ []
  pub answered : AllByRecursion HasOutcome lane.gather.places

-- how many slips the lane has to collect
abbrev pub uncollected : Lane → ℕ
uncollected lane = length lane.slips - lane.collected

-- how many copies the mailbox's channel has
abbrev pub not_taken : Box → ℕ
not_taken box = length box.accepted - box.taken

-- the copies that a mailbox has, in hand or to take
abbrev pub post_of : Option Copy → List Post
post_of None = []
post_of (Some copy) = copy.post ∷ []

abbrev pub on_way : Box → List Post
on_way box = post_of box.hand ++ drop box.taken box.accepted

-- the event finds the house as the order needs it, where a lane's channel has room for that many slips
abbrev pub IsInOrder : ℕ → House → Event → Type 0
IsInOrder room h (Offer k note) = OfBox h note.mailbox (λ box. not_taken box < h.capacity)
IsInOrder room h (GiveSlip w outcome) =
    OfBox h w (λ box. IfSome box.hand (λ copy. OfLane h copy.post.note.txn.lane (λ lane. uncollected lane < room)))
IsInOrder room h (Seal k n) = n ≤ room
IsInOrder room h (Begin k) = OfLane h k IsLaneDone
IsInOrder room h (Collect k) = OfLane h k (λ lane. lane.holds ≡ [])
IsInOrder room h _ = ⊤

-- each event of a run does
abbrev pub IsOrderly : ℕ → House → List Happened → Type 0
IsOrderly room h [] = ⊤
IsOrderly room h (x ∷ xs) = IsInOrder room h x.event × IsOrderly room x.house xs
