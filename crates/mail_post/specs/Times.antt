-- Times, which exist in proofs alone: numbers that rise along a channel.
use Rattle.std.specs.Prelude.{◌≡◌, ℕ, List, [], ◌∷◌, ◌++◌, length}
use Rattle.mail_runs.specs.Timed.{RisesTo}
use Rattle.mail_runs.specs.Known.{AreLater, times_of}
use Rattle.mail_runs.specs.Ordered.{MakesRoom}

-- the last of them, or else lo
abbrev pub last_of : ℕ → List ℕ → ℕ
last_of lo [] = lo
last_of lo (x ∷ xs) = last_of x xs

-- Messages that were accepted at the first times were taken at the second. Both rise, and each was taken later than it
-- was accepted.
pub record HaveMoments (accepted taken : List ℕ) : Type 0 where
  pub until : ℕ
  pub rises : RisesTo 0 until accepted
  pub takes_rise : RisesTo 0 until taken
  pub later : AreLater accepted taken

-- when what went through a channel was accepted and taken
pub record Times : Type 0 where
  -- each message that was taken: when it was accepted, and when it was taken
  pub got_at : List ℕ
  pub took_at : List ℕ
  -- each that waits: when it was accepted
  pub queue_at : List ℕ
  -- no time is above it
  pub latest : ℕ

-- Each message that was taken or waits has its time. Of each lane they are those that the lane was told. Along the
-- channel the times of acceptance rise, and so do those of taking; each message was taken later than it was accepted,
-- and accepted after there was room for it.
pub record KeepsTime {M : Type 0} (lane : M → ℕ) (room : ℕ) (got queue : List M) (sent_at : ℕ → List ℕ) (times : Times)
    : Type 0 where
  pub got_as_many : length times.got_at ≡ length got
  pub queue_as_many : length times.queue_at ≡ length queue
  pub each : (k : ℕ) → times_of lane k (got ++ queue) (times.got_at ++ times.queue_at) ≡ sent_at k
  pub rises : RisesTo 0 times.latest (times.got_at ++ times.queue_at)
  pub takes_rise : RisesTo 0 times.latest times.took_at
  pub later : AreLater times.got_at times.took_at
  pub makes_room : MakesRoom room (times.got_at ++ times.queue_at) times.took_at
