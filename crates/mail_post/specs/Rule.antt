-- The rule of a channel.
use Rattle.std.specs.Prelude.{◌≡◌, ◌≤◌, ◌<◌, ℕ, Bool, true, false, List, [], ◌++◌, length, slice_index_or}
use mathlib.Core.Option.{Option, some, none}
use lib.ListN.{get_elem?}
use Rattle.mail_world.specs.Prefixes.{IsPrefix}
use Rattle.mail_post.specs.declared.rule.Parcel.{Parcel}
use Rattle.mail_post.specs.declared.rule.View.{View}
use Rattle.mail_post.specs.Parcels.{of, part, messages, has_mark, all_of_lane}
use Rattle.mail_post.specs.Times.{Times, KeepsTime}

-- what has gone through a channel, and who knows of it
pub record Traffic (M : Type 0) : Type 0 where
  -- each lane's pass, what the lane was told was accepted, and whether it has put its mark
  pub seat : ℕ → Option ℕ
  pub sent : ℕ → List M
  pub closed : ℕ → Bool
  -- the receiver's pass, the number of lanes, and the parcels taken
  pub reader : ℕ
  pub lanes : ℕ
  pub got : List (Parcel M)
  -- when each lane's messages were accepted, and when those of all were accepted and taken
  pub sent_at : ℕ → List ℕ
  pub times : Times
  -- how many parcels there is room for
  pub room : ℕ

module _ {M : Type 0} where
  -- the one pass of a lane knows what the lane was told was accepted, and whether it is closed, and when it was
  -- accepted, and for how many there is room
  abbrev pub FitsLane : Traffic M → ℕ → View M → Type 0
  FitsLane t pass v = v.sends ≡ true → (t.seat v.lane ≡ some pass) × (t.sent v.lane ≡ v.sent)
      × (t.closed v.lane ≡ v.shut) × (t.sent_at v.lane ≡ v.sent_at) × (v.room ≡ t.room)

  -- the receiver's pass knows how many lanes there are, and what was taken, and of the messages when each was accepted
  -- and taken, and for how many there is room
  abbrev pub FitsTaker : Traffic M → ℕ → View M → Type 0
  FitsTaker t pass v = v.takes ≡ true → (pass ≡ t.reader) × (v.lanes ≡ t.lanes) × (v.got ≡ t.got)
      × (v.got_at ≡ t.times.got_at) × (v.took_at ≡ t.times.took_at) × (v.room ≡ t.room)

  -- a lane of which all is known has no pass
  abbrev pub FitsKnown : Traffic M → View M → Type 0
  FitsKnown t v = (k : ℕ) → k < length v.known → (k < t.lanes) × (t.seat k ≡ none)
      × (slice_index_or v.known k [] ≡ t.sent k) × (slice_index_or v.known_at k [] ≡ t.sent_at k)

  abbrev pub Fits : Traffic M → ℕ → View M → Type 0
  Fits t pass v = FitsLane t pass v × FitsTaker t pass v × FitsKnown t v

  module _ (lane : M → ℕ) where
    -- what was taken of a lane is messages, and after them at most its mark; of other lanes nothing was taken
    abbrev pub IsFair : ℕ → List (Parcel M) → Type 0
    IsFair lanes got = (k : ℕ) → ((s : List M) × (b : Bool) × (part lane k got ≡ all_of_lane k s b))
        × (lanes ≤ k → part lane k got ≡ [])

    -- of a known lane, what was taken is the start of what it sent, and all of it where its mark was taken
    abbrev pub Agrees : View M → Type 0
    Agrees v = (k : ℕ) → k < length v.known
        → IsPrefix (of lane k (messages v.got)) (slice_index_or v.known k [])
        × (has_mark k v.got ≡ true → of lane k (messages v.got) ≡ slice_index_or v.known k [])

    -- What the channel accepted, beside what was taken of it: of each known lane, just what the lane was told, at the
    -- times that it was told, and of no other than the lanes. In the channel's order the times rise, and each message
    -- was accepted after there was room for it.
    pub record HasPassed (v : View M) : Type 0 where
      pub waiting : List M
      pub sent_at : ℕ → List ℕ
      pub times : Times
      pub got_is : v.got_at ≡ times.got_at
      pub took_is : v.took_at ≡ times.took_at
      pub keeps : KeepsTime lane v.room (messages v.got) waiting sent_at times
      pub same : (k : ℕ) → k < length v.known
          → (of lane k (messages v.got ++ waiting) ≡ slice_index_or v.known k [])
          × (sent_at k ≡ slice_index_or v.known_at k [])
      pub others : (k : ℕ) → v.lanes ≤ k → (of lane k (messages v.got ++ waiting) ≡ []) × (sent_at k ≡ [])

-- the rule: the parcels of each lane, those taken and then those in the channel, are all that the lane was told was
-- accepted, and after that its mark where it has put it; and nothing is of another than the lanes. Each message has its
-- times, which rise, and was accepted after there was room for it.
pub record Carries {M : Type 0} (lane : M → ℕ) (items : List (Parcel M)) (views : List (View M)) : Type 0 where
  pub traffic : Traffic M
  pub order : (k : ℕ) → part lane k (traffic.got ++ items) ≡ all_of_lane k (traffic.sent k) (traffic.closed k)
  pub others : (k : ℕ) → traffic.lanes ≤ k → (traffic.seat k ≡ none) × (traffic.sent k ≡ [])
      × (traffic.closed k ≡ false) × (traffic.sent_at k ≡ [])
  pub timed : KeepsTime lane traffic.room (messages traffic.got) (messages items) traffic.sent_at traffic.times
  pub fits : (pass : ℕ) (v : View M) → get_elem? views pass ≡ some v → Fits traffic pass v
