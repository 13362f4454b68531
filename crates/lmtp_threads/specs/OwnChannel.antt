-- A worker thread's channel of copies, beside which some may wait: what it is to each of the thread's mailboxes.
use Rattle.std.specs.Prelude.{◌≡◌, ℕ, ◌+◌, ◌<◌, List, [], length, nat_le, if◌then◌else◌, vec_capacity}
use Rattle.std.specs.declared.vec.Vec.{Vec}
use Rattle.mail_world.specs.declared.Note.{Note}
use Rattle.mail_post.specs.Channel.{Inbox, taken, HasPassedThrough}
use Rattle.mail_post.specs.Parcels.{of}
use Rattle.mail_post.specs.declared.kinds.TheConstants.{WORKER_THREADS}
use Rattle.box_worker.specs.Passing.{sent_for, sent_at_for}
use Rattle.box_worker.specs.Shares.{for_box}
use Rattle.lmtp_threads.specs.declared.beside.TheConstants.{WAITING_ROOM}

-- How many copies may wait beside a thread's channel, for so many mailboxes and lanes: none where each mailbox has a
-- thread of its own.
abbrev pub room_beside : ℕ → ℕ → ℕ
room_beside boxes lanes = if nat_le boxes WORKER_THREADS then 0 else WAITING_ROOM + lanes

-- A thread's list for the copies that wait beside its channel: nothing waits yet, and where the list has room at all it
-- is for just so many.
pub record IsWaitingRoom {T A : Type 0} (room : ℕ) (waits : Vec T A) : Type 0 where
  pub empty : waits.items ≡ []
  pub exact : 0 < vec_capacity waits → vec_capacity waits ≡ room

-- Mailbox b's receiver, over a channel of its own with room for that many more copies: it took the mailbox's copies, in
-- the order in which its thread took them, and of these alone each lane's passed through it.
pub record IsOwnChannel (room b : ℕ) (inbox share : Inbox Note) : Type 0 where
  pub channel : share.channel ≡ inbox.channel
  pub lanes : share.lanes ≡ inbox.lanes
  pub capacity : share.capacity ≡ inbox.capacity + room
  pub gone : share.gone ≡ inbox.gone
  pub took : taken share ≡ of for_box b (taken inbox)
  pub passes : (sent : List (List Note)) (sent_at : List (List ℕ)) → length inbox.got_at ≡ length (taken inbox)
      → length inbox.took_at ≡ length (taken inbox) → HasPassedThrough (λ note. note.txn.lane) inbox sent sent_at
      → HasPassedThrough (λ note. note.txn.lane) share (sent_for b sent) (sent_at_for b sent sent_at)
