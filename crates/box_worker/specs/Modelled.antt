-- A thread that puts copies off: what each of its mailboxes came to is what a worker of its own in the model comes to.
use Rattle.std.specs.Prelude.{◌≡◌, ℕ, ◌+◌, false, List, [], slice_get, slice_index_or, Some}
use Rattle.mail_world.specs.declared.Note.{Note}
use Rattle.mail_world.specs.declared.Slip.{Slip}
use Rattle.mail_world.specs.Site.{Site}
use Rattle.mail_world.specs.Turns.{Told, HaveTurns, AllKeep}
use Rattle.mail_runs.specs.Courses.{outcomes_in}
use Rattle.mail_runs.specs.Deeds.{turns_of}
use Rattle.mail_runs.specs.Known.{Moments, HavePassed, times_of, is_taken, AreWorkerDeeds}
use Rattle.mail_runs.specs.Ordered.{MakesRoom}
use Rattle.mail_runs.specs.Timed.{TimedDeed, times, those, tells_to}
use Rattle.mail_post.specs.Channel.{Sender, taken, HasPassedThrough}
use Rattle.mail_post.specs.InTime.{Ends}
use Rattle.mail_post.specs.Parcels.{of}
use Rattle.box_worker.specs.Limits.{Setting, setting_by}
use Rattle.box_worker.specs.Told.{owed_to}
use Rattle.box_worker.specs.Turned.{Manner}
use Rattle.box_worker.specs.Shares.{for_box, by_box, inbox_for, Start, KeptState, AreFresh}
use Rattle.box_worker.specs.PutOff.{HaveWorkedPatiently}

abbrev pub lane_of : Note → ℕ
lane_of note = note.txn.lane

-- a thread that has ended: its ends before and after, its mailboxes, and what its channel was closed with, lane by lane
pub record ThreadEnd : Type 0 where
  pub old : Ends Slip Note
  pub now : Ends Slip Note
  pub boxes : List KeptState
  pub sent : List (List Note)
  pub sent_at : List (List ℕ)

-- it did what it promises where as many copies as that may wait beside its channel, found no channel gone, and its
-- channel was closed and settled
pub record HasEndedPatiently (room : ℕ) (site : Site) (manner : Manner) (starts : ℕ → Start) (x : ThreadEnd)
    : Type 0 where
  pub fresh : AreFresh x.old.senders x.old.inbox
  pub worked : HaveWorkedPatiently room site manner starts x.old x.now false x.boxes
  pub passed : HasPassedThrough lane_of x.now.inbox x.sent x.sent_at

-- what a mailbox came to: the copies that were taken for it, their turns, its deeds with their times, and when its
-- copies were accepted and taken
pub record MailboxEnd : Type 0 where
  pub taken : List Note
  pub turns : List Told
  pub deeds : List TimedDeed
  pub copies : Moments

-- Of a mailbox of this thread it is known what the model asks of a worker of its own: each copy has its turn, in the
-- order taken; what it did is a turn for each copy, at times that rise; of each lane it took just what the lane gave
-- for it, at the times at which it was accepted; what it told each lane is what the lane's sender was told; and its
-- copies found room in a channel of that capacity.
pub record IsKnownMailbox (capacity : ℕ) (at : Setting) (x : ThreadEnd) (box : MailboxEnd) : Type 0 where
  pub have : HaveTurns at.calendar at.site at.quota box.taken box.turns
  pub keep : AllKeep box.turns
  pub did : AreWorkerDeeds (turns_of at.worker box.taken (outcomes_in box.turns)) box.deeds
  pub passed : HavePassed box.copies
  pub got : (k : ℕ) → of lane_of k box.taken ≡ of for_box at.worker (slice_index_or x.sent k [])
  pub gave : (k : ℕ) → times_of lane_of k box.taken box.copies.accepted
      ≡ times_of for_box at.worker (slice_index_or x.sent k []) (slice_index_or x.sent_at k [])
  pub took : box.copies.taken ≡ times (those is_taken box.deeds)
  pub said : (k : ℕ) (sender : Sender Slip) → slice_get x.now.senders k ≡ Some sender
      → of by_box at.worker sender.sent ≡ owed_to at.worker (outcomes_in box.turns) k box.taken
  pub told : (k : ℕ) (sender : Sender Slip) → slice_get x.now.senders k ≡ Some sender
      → times_of by_box at.worker sender.sent sender.sent_at ≡ times (those (tells_to k) box.deeds)
  pub makes_room : MakesRoom capacity box.copies.accepted box.copies.taken

-- so it is of each mailbox of a thread that has ended, over a channel with room for as many more
abbrev pub EachIsKnownPatiently : Manner → Type 0
EachIsKnownPatiently manner = (room : ℕ) (site : Site) (starts : ℕ → Start) (x : ThreadEnd)
    → HasEndedPatiently room site manner starts x → (i : ℕ) (kept : KeptState) → slice_get x.boxes i ≡ Some kept
    → (box : MailboxEnd) × (box.taken ≡ taken (inbox_for kept.number x.now.inbox))
    × IsKnownMailbox (x.now.inbox.capacity + room) (setting_by site (starts i).quota kept.number) x box
