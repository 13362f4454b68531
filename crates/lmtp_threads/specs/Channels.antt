-- All channels of one kind together: a grid of senders, and their receivers.
use Rattle.std.specs.Prelude.{◌≡◌, ℕ, ◌<◌, false, List, [], ◌++◌, length, map, slice_get, Some}
use Rattle.mail_post.specs.Channel.{Channel, Sender, Inbox, Sent, taken, new_senders, new_inbox, AreSendersOf}
use Rattle.mail_post.specs.Channel.{TookSome, TookAll, HasPassedThrough, sent_by, sent_at_by}
use Rattle.mail_post.specs.declared.channel.Gone.TheVariants.{Closed}

-- how many channels there are, and how many lanes each has
pub record Shape : Type 0 where
  pub lanes : ℕ
  pub count : ℕ

module _ {M : Type 0} where
  -- a sender that was told that these were accepted, at these times, and had none handed back
  abbrev pub lane_at : Channel M → ℕ → List M → List ℕ → Sender M
  lane_at channel k sent at = record { channel = channel; number = k; sent = sent; sent_at = at; gone = false }

  -- place b has lane k's sender of the channel, which was told that these were accepted, at some times
  abbrev pub HasLane : List (Sender M) → ℕ → Channel M → ℕ → List M → Type 0
  HasLane senders b channel k sent = (at : List ℕ) × (slice_get senders b ≡ Some (lane_at channel k sent at))

  -- which channels these are
  abbrev pub channels_of : List (Inbox M) → List (Channel M)
  channels_of inboxes = map (λ (inbox : Inbox M). inbox.channel) inboxes

  -- nothing was sent
  abbrev pub none : ℕ → ℕ → List M
  none k b = []

  -- the senders and the receiver of a new channel of that capacity
  pub record IsNewChannel (capacity lanes : ℕ) (senders : List (Sender M)) (inbox : Inbox M) : Type 0 where
    pub senders_are : senders ≡ new_senders inbox.channel lanes
    pub inbox_is : inbox ≡ new_inbox inbox.channel capacity lanes

  -- row k has lane k's sender of each channel, in the channels' order
  pub record AreRows (n : ℕ) (channels : List (Channel M)) (sent : ℕ → ℕ → List M) (rows : List (List (Sender M)))
      : Type 0 where
    pub count : length rows ≡ n
    pub widths : (k : ℕ) (row : List (Sender M)) → slice_get rows k ≡ Some row → length row ≡ length channels
    pub cells : (k b : ℕ) (row : List (Sender M)) (channel : Channel M) → slice_get rows k ≡ Some row
        → slice_get channels b ≡ Some channel → HasLane row b channel k (sent k b)

  -- column b has all senders of channel b, in their lanes' order
  pub record AreColumns (n : ℕ) (channels : List (Channel M)) (sent : ℕ → ℕ → List M)
      (columns : List (List (Sender M))) : Type 0 where
    pub count : length columns ≡ length channels
    pub widths : (b : ℕ) (column : List (Sender M)) → slice_get columns b ≡ Some column → length column ≡ n
    pub cells : (b k : ℕ) (column : List (Sender M)) (channel : Channel M) → slice_get columns b ≡ Some column
        → slice_get channels b ≡ Some channel → k < n → HasLane column k channel k (sent k b)

  -- new channels of that capacity: nothing was sent, and nothing taken
  pub record AreNewChannels (capacity n count : ℕ) (rows : List (List (Sender M))) (inboxes : List (Inbox M))
      : Type 0 where
    pub counts : length inboxes ≡ count
    pub rows_are : AreRows n (channels_of inboxes) none rows
    pub timeless : (k b : ℕ) (row : List (Sender M)) (sender : Sender M) → slice_get rows k ≡ Some row
        → slice_get row b ≡ Some sender → sender.sent_at ≡ []
    pub inboxes_are : (b : ℕ) (inbox : Inbox M) → slice_get inboxes b ≡ Some inbox
        → inbox ≡ new_inbox inbox.channel capacity n

  -- the channel was closed by n lanes, which had sent this
  pub record IsClosedWith (n : ℕ) (channel : Channel M) (sent : ℕ → List M) (closed : Sent M) : Type 0 where
    pub channel_is : closed.channel ≡ channel
    pub count : length closed.sent ≡ n
    pub each : (k : ℕ) → k < n → slice_get closed.sent k ≡ Some (sent k)

  pub record AreClosedWith (n : ℕ) (channels : List (Channel M)) (sent : ℕ → ℕ → List M) (closed : List (Sent M))
      : Type 0 where
    pub count : length closed ≡ length channels
    pub each : (b : ℕ) (channel : Channel M) (c : Sent M) → slice_get channels b ≡ Some channel
        → slice_get closed b ≡ Some c → IsClosedWith n channel (λ k. sent k b) c

  -- each channel was closed with the times that its senders, row by row, were told
  abbrev pub HaveTimes : List (List (Sender M)) → List (Sent M) → Type 0
  HaveTimes rows closed = (k b : ℕ) (row : List (Sender M)) (sender : Sender M) (c : Sent M)
      → slice_get rows k ≡ Some row → slice_get row b ≡ Some sender → slice_get closed b ≡ Some c
      → slice_get c.sent_at k ≡ Some sender.sent_at

  -- the receiver may be compared with what its channel was closed with
  pub record CanSettle (inbox : Inbox M) (closed : Sent M) : Type 0 where
    pub channel : inbox.channel ≡ closed.channel
    pub lanes : length closed.sent ≡ inbox.lanes

  -- what was taken is the start of what was sent, and all of it once the receiver is closed; and all that the channel
  -- accepted has one order, in which times rise and no more wait than the channel has room for
  pub record IsSettled (lane : M → ℕ) (inbox : Inbox M) (closed : Sent M) : Type 0 where
    pub prefix : TookSome lane (taken inbox) closed.sent
    pub all : inbox.gone ≡ Some Closed → TookAll lane (taken inbox) closed.sent
    pub passed : HasPassedThrough lane inbox closed.sent closed.sent_at

  -- closing the channel of these senders gives this
  pub record IsShut (senders : List (Sender M)) (closed : Sent M) : Type 0 where
    pub channel : AreSendersOf closed.channel senders
    pub sent : closed.sent ≡ sent_by senders
    pub sent_at : closed.sent_at ≡ sent_at_by senders

  -- the rows are of that many channels, and at least one lane
  pub record MayClose (shape : Shape) (rows : List (List (Sender M))) : Type 0 where
    pub channels : List (Channel M)
    pub sent : ℕ → ℕ → List M
    pub some : 0 < shape.lanes
    pub count : length channels ≡ shape.count
    pub rows_are : AreRows shape.lanes channels sent rows

  -- the lane's senders are those of before, this more was accepted of each, and none was handed back
  pub record HasGiven (sent : ℕ → List M) (old new : List (Sender M)) : Type 0 where
    pub as_many : length new ≡ length old
    pub each : (b : ℕ) (before after : Sender M) → slice_get old b ≡ Some before → slice_get new b ≡ Some after
        → (after.channel ≡ before.channel) × (after.number ≡ before.number) × (after.sent ≡ before.sent ++ sent b)
        × (after.gone ≡ false)
