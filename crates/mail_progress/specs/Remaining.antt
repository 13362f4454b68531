-- What remains in the house of a computed run that stands still, of its first lane and its first mailbox.
use Rattle.std.specs.Prelude.{◌≡◌, ℕ, true, Some, sum_by}
use Rattle.mail_world.specs.House.{Hold, Copy, Box, Lane, House}
use Rattle.mail_world.specs.Events.{LaneIs, BoxIs}
use Rattle.mail_progress.specs.Orderly.{uncollected, not_taken}

-- this many slips are given and not collected, copies accepted and not taken, and copies not offered
pub record Remains (h : House) (slips accepted offers : ℕ) : Type 0 where
  pub lane : Lane
  pub box : Box
  pub lane_is : LaneIs h 0 lane
  pub box_is : BoxIs h 0 box
  pub to_collect : uncollected lane ≡ slips
  pub to_take : not_taken box ≡ accepted
  pub to_offer : sum_by (λ (hold : Hold). hold.weight) lane.holds ≡ offers

-- the copy in hand is released, and has no slip yet
pub record HasReleased (h : House) : Type 0 where
  pub box : Box
  pub copy : Copy
  pub box_is : BoxIs h 0 box
  pub in_hand : box.hand ≡ Some copy
  pub released : copy.released ≡ true
