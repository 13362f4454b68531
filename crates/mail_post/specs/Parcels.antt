-- The parcels of one lane.
use Rattle.std.specs.Prelude.{◌==◌, ℕ, Bool, true, false, ◌||◌, List, [], ◌∷◌, filter}
use Rattle.mail_post.specs.declared.rule.Parcel.{Parcel}
use Rattle.mail_post.specs.declared.rule.Parcel.TheVariants.{Copy, Mark}

module _ {M : Type 0} where
  -- the messages among the parcels
  abbrev pub messages : List (Parcel M) → List M
  messages [] = []
  messages (Copy m ∷ xs) = m ∷ messages xs
  messages (Mark j ∷ xs) = messages xs

  -- whether the closing mark of lane k is among them
  abbrev pub has_mark : ℕ → List (Parcel M) → Bool
  has_mark k [] = false
  has_mark k (Copy m ∷ xs) = has_mark k xs
  has_mark k (Mark j ∷ xs) = (j == k) || has_mark k xs

  -- what lane k puts in all: its messages, and after them at most its closing mark
  abbrev pub all_of_lane : ℕ → List M → Bool → List (Parcel M)
  all_of_lane k [] false = []
  all_of_lane k [] true = Mark k ∷ []
  all_of_lane k (m ∷ ms) b = Copy m ∷ all_of_lane k ms b

  module _ (lane : M → ℕ) where
    -- the messages of lane k, in their order
    abbrev pub of : ℕ → List M → List M
    of k ms = filter (λ m. lane m == k) ms

    abbrev pub lane_of : Parcel M → ℕ
    lane_of (Copy m) = lane m
    lane_of (Mark k) = k

    -- the parcels of lane k, in their order
    abbrev pub part : ℕ → List (Parcel M) → List (Parcel M)
    part k xs = filter (λ x. lane_of x == k) xs
