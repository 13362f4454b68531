-- What contracts see of a channel and its ends.
use Rattle.std.specs.Prelude.{◌≡◌, ◌==◌, ℕ, zero, suc, ◌+◌, ◌<◌, Bool, false, length, if◌then◌else◌, slice_index_or}
use Rattle.std.specs.Prelude.{Option, Some, None, Result, Ok, Err, List, [], ◌∷◌, ◌++◌, map}
use Rattle.atomic_table.specs.Seated.{TableId}
use Rattle.atomic_table.specs.declared.badge.Badge.{Badge}
use Rattle.crossbeam_channel.specs.declared.flavors.array.Key.{Key}
use Rattle.crossbeam_channel.specs.Claims.{Pass}
use Rattle.mail_world.specs.Prefixes.{IsPrefix}
use Rattle.mail_post.specs.declared.rule.Parcel.{Parcel}
use Rattle.mail_post.specs.declared.rule.Parcel.TheVariants.{Copy, Mark}
use Rattle.mail_post.specs.declared.rule.View.{View}
use Rattle.mail_post.specs.declared.channel.Gone.{Gone}
use Rattle.mail_post.specs.declared.channel.Gone.TheVariants.{Closed}
use Rattle.mail_post.specs.Parcels.{of, messages, has_mark}
use Rattle.mail_runs.specs.Timed.{RisesTo}
use Rattle.mail_post.specs.Times.{HaveMoments}
use Rattle.mail_runs.specs.Known.{AreLater, times_of}
use Rattle.mail_runs.specs.Ordered.{MakesRoom}
use Rattle.mail_post.specs.Views.{taker}
use Rattle.mail_post.specs.Rule.{IsFair}

-- which channel a token is of
abbrev pub Channel : Type 0 → Type 0
Channel M = TableId × Badge (Key (Parcel M))

-- a sender: its number among its channel's, what it was told was accepted, and when, and whether a message of it was
-- handed back
pub record Sender (M : Type 0) : Type 0 where
  pub channel : Channel M
  pub number : ℕ
  pub sent : List M
  pub sent_at : List ℕ
  pub gone : Bool

-- the receiver: how many parcels its channel has room for, the number of lanes, what was taken (messages and marks),
-- when each of the messages was accepted and taken, and why no more is
pub record Inbox (M : Type 0) : Type 0 where
  pub channel : Channel M
  pub capacity : ℕ
  pub lanes : ℕ
  pub got : List (Parcel M)
  pub got_at : List ℕ
  pub took_at : List ℕ
  pub gone : Option Gone

-- the closed senders: what each lane was told was accepted, and when, by the lanes' numbers
pub record Sent (M : Type 0) : Type 0 where
  pub channel : Channel M
  pub sent : List (List M)
  pub sent_at : List (List ℕ)

-- how many of the first n lanes pass the test
abbrev pub count_senders : (ℕ → Bool) → ℕ → ℕ
count_senders p zero = 0
count_senders p (suc n) = if p n then count_senders p n + 1 else count_senders p n

-- the list and one more before it
abbrev pub with : {M : Type 0} → M → Option (List M) → Option (List M)
with m None = None
with m (Some ms) = Some (m ∷ ms)

module _ {M : Type 0} where
  abbrev pub channel_of : Pass (Parcel M) (View M) → Channel M
  channel_of p = (p.table_id, p.me.0.of)

  -- what a pass knows
  abbrev pub view_of : Pass (Parcel M) (View M) → View M
  view_of p = p.me.0.client

  -- the messages that were taken
  abbrev pub taken : Inbox M → List M
  taken r = messages r.got

  -- the first n lanes, which have sent nothing
  abbrev pub new_senders : Channel M → ℕ → List (Sender M)
  new_senders channel zero = []
  new_senders channel (suc n) =
      new_senders channel n ++ record { channel = channel; number = n; sent = []; sent_at = []; gone = false } ∷ []

  -- the receiver that a channel of that capacity begins with
  abbrev pub new_inbox : Channel M → ℕ → ℕ → Inbox M
  new_inbox channel capacity lanes = record {
    channel = channel;
    capacity = capacity;
    lanes = lanes;
    got = [];
    got_at = [];
    took_at = [];
    gone = None;
  }

  -- they are of lanes i, i + 1, .. of one channel
  abbrev pub AreSendersFrom : ℕ → Channel M → List (Sender M) → Type 0
  AreSendersFrom i channel [] = Unit {0}
  AreSendersFrom i channel (x ∷ xs) = (x.channel ≡ channel) × (x.number ≡ i) × AreSendersFrom (i + 1) channel xs

  -- each of the senders is of that channel, and they are in lane order from lane 0 on
  abbrev pub AreSendersOf : Channel M → List (Sender M) → Type 0
  AreSendersOf channel xs = AreSendersFrom 0 channel xs

  -- the senders of one channel, in lane order, and at least one
  abbrev pub AreSenders : List (Sender M) → Type 0
  AreSenders [] = ⊥
  AreSenders (x ∷ xs) = AreSendersOf x.channel (x ∷ xs)

  -- what each was told was accepted
  abbrev pub sent_by : List (Sender M) → List (List M)
  sent_by xs = map (λ x. x.sent) xs

  -- and when
  abbrev pub sent_at_by : List (Sender M) → List (List ℕ)
  sent_at_by xs = map (λ x. x.sent_at) xs

  -- the message was accepted at a time after that one
  abbrev pub IsAccepted : ℕ → M → Sender M → Sender M → Type 0
  IsAccepted after m old new = (t : ℕ) × (after < t)
      × (new ≡ record old { sent = old.sent ++ m ∷ []; sent_at = old.sent_at ++ t ∷ [] })

  -- A message was accepted at a time, and taken later, and after that one. Along all that was taken the times of
  -- acceptance rise, and so do those of taking.
  pub record IsTimed (after : ℕ) (old new : Inbox M) : Type 0 where
    pub accepted_at : ℕ
    pub taken_at : ℕ
    pub moment : after < taken_at
    pub later : accepted_at < taken_at
    pub got_more : new.got_at ≡ old.got_at ++ accepted_at ∷ []
    pub took_more : new.took_at ≡ old.took_at ++ taken_at ∷ []
    pub timed : HaveMoments new.got_at new.took_at

  -- no further message was taken
  abbrev pub HasSameTimes : Inbox M → Inbox M → Type 0
  HasSameTimes old new = (new.got_at ≡ old.got_at) × (new.took_at ≡ old.took_at)

  module _ (lane : M → ℕ) where
    -- the messages of lane k before its mark
    abbrev pub before_mark : ℕ → List (Parcel M) → Option (List M)
    before_mark k [] = None
    before_mark k (Copy m ∷ xs) = if lane m == k then with m (before_mark k xs) else before_mark k xs
    before_mark k (Mark j ∷ xs) = if j == k then Some [] else before_mark k xs

    -- all lanes' marks were taken, and no message of a lane after its mark. A mark carries its lane's number alone;
    -- that the messages before it are all that the lane was told was accepted is the law NamesAll
    abbrev pub IsDrained : Inbox M → Type 0
    IsDrained r = (k : ℕ) → k < r.lanes → before_mark k r.got ≡ Some (of lane k (taken r))

    -- what was taken of each lane is the start of what it was told was accepted
    abbrev pub TookSome : List M → List (List M) → Type 0
    TookSome ms sent = (k : ℕ) → IsPrefix (of lane k ms) (slice_index_or sent k [])

    -- what was taken of each lane is all that it was told was accepted, and nothing was taken of another
    abbrev pub TookAll : List M → List (List M) → Type 0
    TookAll ms sent = (k : ℕ) → of lane k ms ≡ slice_index_or sent k []

    -- what one parcel makes of a receiver that isn't gone: a mark that isn't the last answers nothing; a message is
    -- taken after that time
    abbrev pub IsNext : ℕ → Inbox M → Inbox M → Option (Result M Gone) → Type 0
    IsNext after old new None = (new.gone ≡ None) × (taken new ≡ taken old) × HasSameTimes old new
    IsNext after old new (Some (Ok post)) = (new.gone ≡ None) × (taken new ≡ taken old ++ post ∷ [])
        × (lane post < old.lanes) × IsTimed after old new
    IsNext after old new (Some (Err why)) = (new.gone ≡ Some why) × (taken new ≡ taken old)
        × (why ≡ Closed → IsDrained new) × HasSameTimes old new

    -- What went through a channel, in one order, that of its acceptance, with times that rise. Of each lane it is what
    -- the lane was told was accepted, at the times that it was told. What was taken is a prefix of it, in the same
    -- order, each later than it was accepted; and all of it once every mark was taken. What was accepted was accepted
    -- after what stood as many places before it as the channel has room for was taken.
    pub record HasPassedThrough (inbox : Inbox M) (sent : List (List M)) (sent_at : List (List ℕ)) : Type 0 where
      pub accepted : List M
      pub accepted_at : List ℕ
      pub as_many : length accepted_at ≡ length accepted
      pub until : ℕ
      pub rises : RisesTo 0 until accepted_at
      pub same : (k : ℕ) → of lane k accepted ≡ slice_index_or sent k []
      pub same_at : (k : ℕ) → times_of lane k accepted accepted_at ≡ slice_index_or sent_at k []
      pub waiting : List M
      pub waiting_at : List ℕ
      pub first : accepted ≡ taken inbox ++ waiting
      pub first_at : accepted_at ≡ inbox.got_at ++ waiting_at
      pub takes_rise : RisesTo 0 until inbox.took_at
      pub later : AreLater inbox.got_at inbox.took_at
      pub all : inbox.gone ≡ Some Closed → (waiting ≡ []) × (waiting_at ≡ [])
      pub makes_room : MakesRoom inbox.capacity accepted_at inbox.took_at

-- what a receiver keeps of what its pass knows: the marks taken are counted, and it is closed only with those of all
-- lanes; and the times rise
pub record IsInbox {M : Type 0} (lane : M → ℕ) (lanes marks : ℕ) (gone : Option Gone) (v : View M) : Type 0 where
  pub knows : v ≡ taker v.room lanes v.got v.got_at v.took_at
  pub fair : IsFair lane lanes v.got
  pub counted : count_senders (λ k. has_mark k v.got) lanes ≡ marks
  pub all : gone ≡ Some Closed → marks ≡ lanes
  pub timed : HaveMoments v.got_at v.took_at
