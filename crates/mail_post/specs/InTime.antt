-- What a thread does at its ends of the channels, in its order, with times that rise.
use Rattle.std.specs.Prelude.{◌≡◌, ℕ, ◌+◌, Bool, List, ◌++◌, length, sum_by, slice_get, Some}
use Rattle.mail_runs.specs.Deeds.{Deed}
use Rattle.mail_runs.specs.Timed.{TimedDeed, times, those, RisesTo}
use Rattle.mail_post.specs.Channel.{Sender, Inbox}
use Rattle.mail_post.specs.Times.{last_of}

-- a thread's ends: its senders, one of each of several channels, and its receiver
pub record Ends (A B : Type 0) : Type 0 where
  pub senders : List (Sender A)
  pub inbox : Inbox B

-- a number that no time of the thread's own is above
abbrev pub clock_of : {A B : Type 0} → List (Sender A) → Inbox B → ℕ
clock_of senders inbox = sum_by (λ sender. last_of 0 sender.sent_at) senders + last_of 0 inbox.took_at

-- which deeds give to the sender at a place, and which take
pub record Sorts : Type 0 where
  pub gives : ℕ → Deed → Bool
  pub takes : Deed → Bool

-- The deeds since: their times rise, and those of the deeds that give and take are what the ends were told.
pub record AreInTime {A B : Type 0} (sorts : Sorts) (deeds : List TimedDeed) (old new : Ends A B) : Type 0 where
  pub rises : RisesTo (clock_of old.senders old.inbox) (clock_of new.senders new.inbox) (times deeds)
  pub as_many : length new.senders ≡ length old.senders
  pub gave : (at : ℕ) (before after : Sender A) → slice_get old.senders at ≡ Some before
      → slice_get new.senders at ≡ Some after
      → after.sent_at ≡ before.sent_at ++ times (those (sorts.gives at) deeds)
  pub took : new.inbox.took_at ≡ old.inbox.took_at ++ times (those sorts.takes deeds)
