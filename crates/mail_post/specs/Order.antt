-- The laws of a channel, for its messages and no parcels.
use Rattle.std.specs.Prelude.{◌≡◌, ◌≤◌, ℕ, true, Some, List, [], ◌++◌}
use mathlib.Core.Option.{some}
use lib.ListN.{get_elem?}
use Rattle.mail_post.specs.declared.rule.Parcel.{Parcel}
use Rattle.mail_post.specs.declared.rule.View.{View}
use Rattle.mail_post.specs.Parcels.{of, messages}
use Rattle.mail_post.specs.Rule.{Carries}
use Rattle.mail_post.specs.Channel.{before_mark}

module _ {M : Type 0} (lane : M → ℕ) where
  -- of each lane, what was taken and then what waits is what the lane was told was accepted
  abbrev pub KeepsOrder : Type 0
  KeepsOrder = (items : List (Parcel M)) (views : List (View M)) (h : Carries lane items views) (k : ℕ)
      → of lane k (messages (h.traffic.got ++ items)) ≡ h.traffic.sent k

  -- nothing is of another than the lanes
  abbrev pub IsNothingElse : Type 0
  IsNothingElse = (items : List (Parcel M)) (views : List (View M)) (h : Carries lane items views) (k : ℕ)
      → h.traffic.lanes ≤ k → of lane k (messages (h.traffic.got ++ items)) ≡ []

  -- a mark that was put names all that its lane was told was accepted: nothing of the lane stands after it
  abbrev pub NamesAll : Type 0
  NamesAll = (items : List (Parcel M)) (views : List (View M)) (h : Carries lane items views) (k : ℕ)
      → h.traffic.closed k ≡ true → before_mark lane k (h.traffic.got ++ items) ≡ Some (h.traffic.sent k)

  -- each lane's end knows just what the lane was told was accepted, and the receiver's what was taken
  abbrev pub AreTold : Type 0
  AreTold = (items : List (Parcel M)) (views : List (View M)) (h : Carries lane items views) (pass : ℕ) (v : View M)
      → get_elem? views pass ≡ some v
      → (v.sends ≡ true → h.traffic.sent v.lane ≡ v.sent) × (v.takes ≡ true → h.traffic.got ≡ v.got)
