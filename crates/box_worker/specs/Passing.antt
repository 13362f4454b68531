-- A channel that has copies for several mailboxes is, to each of them, a channel of its own: laws.
use Rattle.std.specs.Prelude.{◌≡◌, ◌==◌, ℕ, Bool, false, List, [], ◌∷◌, length, map, flat_map}
use Rattle.mail_world.specs.declared.Note.{Note}
use Rattle.mail_world.specs.declared.Slip.{Slip}
use Rattle.mail_runs.specs.Deeds.{Deed, Gave, Took, Told, Heard, given_in}
use Rattle.mail_runs.specs.Known.{times_of}
use Rattle.mail_runs.specs.Timed.{TimedDeed, whats, times, those, gives_to}
use Rattle.mail_post.specs.Channel.{Inbox, taken, HasPassedThrough}
use Rattle.mail_post.specs.Parcels.{of}
use Rattle.mail_post.specs.WorkerThreads.{worker_thread}
use Rattle.box_worker.specs.Shares.{for_box, inbox_for}

-- the worker thread of a copy's mailbox
abbrev pub to_thread : Note → ℕ
to_thread note = worker_thread note.mailbox

-- what each lane was told was accepted of a mailbox's copies, and when
abbrev pub sent_for : ℕ → List (List Note) → List (List Note)
sent_for b sent = map (of for_box b) sent

abbrev pub sent_at_for : ℕ → List (List Note) → List (List ℕ) → List (List ℕ)
sent_at_for b (notes ∷ sent) (ts ∷ sent_at) = times_of for_box b notes ts ∷ sent_at_for b sent sent_at
sent_at_for b _ _ = []

-- Of each mailbox's copies alone the channel accepted, lane by lane, what the lane was told, in one order with times
-- that rise; what was taken is a prefix of it; and no more wait than the channel has room for.
abbrev pub PassesForEach : Type 0
PassesForEach = (b : ℕ) (inbox : Inbox Note) (sent : List (List Note)) (sent_at : List (List ℕ))
    → length inbox.got_at ≡ length (taken inbox) → length inbox.took_at ≡ length (taken inbox)
    → HasPassedThrough (λ note. note.txn.lane) inbox sent sent_at
    → HasPassedThrough (λ note. note.txn.lane) (inbox_for b inbox) (sent_for b sent) (sent_at_for b sent sent_at)

-- the test says just of what is given to that thread's channel that it is
pub record GivesToThread (t : ℕ) (gives : Deed → Bool) : Type 0 where
  pub gave : (note : Note) → gives (Gave note) ≡ (worker_thread note.mailbox == t)
  pub took : (note : Note) → gives (Took note) ≡ false
  pub told : (slip : Slip) → gives (Told slip) ≡ false
  pub heard : (slip : Slip) → gives (Heard slip) ≡ false

-- The times at which a lane gave copies to a mailbox are, among those at which it gave any to the mailbox's thread, the
-- mailbox's.
abbrev pub GaveWithin : Type 0
GaveWithin = (b : ℕ) (gives : Deed → Bool) → GivesToThread (worker_thread b) gives → (ds : List TimedDeed)
    → times_of for_box b (of to_thread (worker_thread b) (flat_map given_in (whats ds))) (times (those gives ds))
    ≡ times (those (gives_to b) ds)
