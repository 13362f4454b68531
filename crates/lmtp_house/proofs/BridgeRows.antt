-- All channels of one kind, closed row by row and settled, each by itself.
use Rattle.std.proofs.Common.{◌≡◌, ℕ, ◌<◌, List, length, Some, ◌∙◌, arith}
use Rattle.std.specs.Prelude.{slice_get}
use Rattle.std.specs.List.{AllZip}
use Rattle.mail_world.proofs.OtherSteps.{there_is}
use Rattle.mail_post.specs.Channel.{Channel, Sender, Inbox, Sent, taken}
use Rattle.lmtp_threads.specs.Channels.{AreRows, AreClosedWith, HaveTimes, IsSettled}
use Rattle.lmtp_threads.proofs.ChannelRows.{zip_at}
use Rattle.lmtp_house.proofs.Bridge.{IsSettledAs}

module _ {M : Type 0} where
  -- the channels were closed with these rows of senders, and their receivers settled: what each sender was told was
  -- accepted, and when; and of each channel its capacity, what was taken, and when
  pub record AreSettledAs (lane : M → ℕ) (n count : ℕ) (capacity : ℕ → ℕ) (sent : ℕ → ℕ → List M) (sent_at : ℕ → ℕ → List ℕ)
      (got : ℕ → List M) (took_at : ℕ → List ℕ) : Type 0 where
    pub channels : List (Channel M)
    pub rows : List (List (Sender M))
    pub inboxes : List (Inbox M)
    pub closed : List (Sent M)
    pub channel_count : length channels ≡ count
    pub inbox_count : length inboxes ≡ count
    pub rows_are : AreRows n channels sent rows
    pub shut : AreClosedWith n channels sent closed
    pub shut_at : HaveTimes rows closed
    pub settled : AllZip (IsSettled lane) inboxes closed
    pub told : (k b : ℕ) (row : List (Sender M)) (sender : Sender M) → slice_get rows k ≡ Some row → slice_get row b ≡ Some sender
        → sender.sent_at ≡ sent_at k b
    pub took : (b : ℕ) (inbox : Inbox M) → slice_get inboxes b ≡ Some inbox
        → (taken inbox ≡ got b) × (inbox.took_at ≡ took_at b) × (inbox.capacity ≡ capacity b)

  pub settled_as : (lane : M → ℕ) (n count : ℕ) (capacity : ℕ → ℕ) (sent : ℕ → ℕ → List M) (sent_at : ℕ → ℕ → List ℕ) (got : ℕ → List M) (took_at : ℕ → List ℕ)
      → (h : AreSettledAs lane n count capacity sent sent_at got took_at) → (b : ℕ) → b < count
      → (c : IsSettledAs lane n (capacity b) (λ k. sent k b) (λ k. sent_at k b) (got b) (took_at b)) × (slice_get h.inboxes b ≡ Some c.inbox)
  settled_as lane n count capacity sent sent_at got took_at h b low =
      let inbox = there_is h.inboxes b (omega (arith, h.inbox_count)) in
      let closed = there_is h.closed b (omega (arith, h.shut.count, h.channel_count)) in
      let channel = there_is h.channels b (omega (arith, h.channel_count)) in
      let w = h.shut.each b channel.0 closed.0 channel.1 closed.1 in (
        record {
          inbox = inbox.0;
          closed = closed.0;
          passed = (zip_at (IsSettled lane) h.inboxes h.closed h.settled b inbox.0 closed.0 inbox.1 closed.1).passed;
          capacity_is = (h.took b inbox.0 inbox.1).2;
          count = w.count;
          sent_is = w.each;
          sent_at_is = λ k below.
              let row = there_is h.rows k (omega (arith, h.rows_are.count)) in
              let sender = there_is row.0 b (omega (arith, h.rows_are.widths k row.0 row.1, h.channel_count)) in
              h.shut_at k b row.0 sender.0 closed.0 row.1 sender.1 closed.1 ∙ (λ i. Some (h.told k b row.0 sender.0 row.1 sender.1 i));
          got_is = (h.took b inbox.0 inbox.1).0;
          took_at_is = (h.took b inbox.0 inbox.1).1;
        },
        inbox.1,
      )
