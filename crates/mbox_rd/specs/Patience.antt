-- How long a mailbox is waited for while others have it locked, by what its clock told.
use Rattle.std.specs.Prelude.{◌≡◌, ◌⊎◌, ℕ, ◌+◌, ◌-◌, ◌*◌, ◌/◌, ◌<◌, ◌≤◌, min, max, nat_le, cond, ◌&&◌, not}
use Rattle.std.specs.Prelude.{Bool, true, false, Option, Some, None}
use Rattle.core.specs.Duration.{as_nanos}
use Rattle.core.specs.declared.time.Duration.{Duration}
use Rattle.mail_world.specs.Counts.{counted}
use Rattle.mail_world.specs.declared.limits.TheConstants.{LOCK_WAIT_LIMIT as LONGEST}
use Rattle.mbox_rd.specs.declared.patience.Patience.{Patience}

-- that many pauses of a turn in milliseconds, from the first on: twenty short ones come first
abbrev pub pauses_ms : ℕ → ℕ
pauses_ms count = 5 * min count 20 + 100 * (count - 20)

-- the one that comes after so many
abbrev pub pause_ms : ℕ → ℕ
pause_ms made = pauses_ms (made + 1) - pauses_ms made

-- whether a minute had passed since then; a clock that tells no time ends none
abbrev pub is_minute_over : Option Duration → Duration → Bool
is_minute_over None since = false
is_minute_over (Some now) since = nat_le 60 ((as_nanos now - as_nanos since) / 1_000_000_000)

-- the whole milliseconds between two moments
abbrev pub ms_between : Duration → Duration → ℕ
ms_between began now = counted ((as_nanos now - as_nanos began) / 1_000_000)

-- how long a turn is waited for by then; where the clock tells no time its pauses count
abbrev pub spent_ms : Option Duration → Option Duration → ℕ → ℕ
spent_ms None now paused = paused
spent_ms (Some asked) None paused = paused
spent_ms (Some asked) (Some now) paused = max paused (ms_between asked now)

-- the clock told that not even a millisecond passed in a pause; one that tells no time is believed
abbrev pub took_none : Option Duration → Option Duration → Bool
took_none None woke = false
took_none (Some began) None = false
took_none (Some began) (Some woke) = nat_le (ms_between began woke) 0

-- a turn that is asked for then has one try: one was missed, and no minute had passed since
abbrev pub has_one_try : Patience → Option Duration → Bool
has_one_try old asked = old.was_missed && not (is_minute_over asked old.missed)

-- how long turns had been waited for then, within this minute
abbrev pub waited_before : Patience → Option Duration → ℕ
waited_before old asked = cond (is_minute_over asked old.began) 0 old.waited_ms

-- no pause was made yet
pub record IsUnpaused (new : Patience) : Type 0 where
  pub pauses : new.pauses ≡ 0
  pub paused_ms : new.paused_ms ≡ 0

-- A turn was asked for, where turns are waited for that many seconds within a minute.
pub record HasAsked (old new : Patience) (seconds : ℕ) : Type 0 where
  pub same : new ≡ record old {
    was_missed = has_one_try old new.asked;
    waited_ms = waited_before old new.asked;
    asked = new.asked;
    left_ms = min seconds LONGEST * 1_000 - waited_before old new.asked;
    pauses = 0;
    paused_ms = 0;
    lasted_ms = 0;
    paused_none = false;
    goes_on = false;
  }

-- A turn was asked for, and put off.
abbrev pub IsPutOff : Patience → ℕ → Type 0
IsPutOff patience seconds = HasAsked patience (record patience { goes_on = false }) seconds

-- it has more than one try, and its pauses took less than there was time for
pub record HasTime (patience : Patience) : Type 0 where
  pub was_missed : patience.was_missed ≡ false
  pub left : patience.paused_ms < patience.left_ms

-- The time for this turn was over as a pause was asked for: by the clock, or, where that told none as the turn was
-- asked for, by its pauses.
abbrev pub IsOverByThen : Patience → Type 0
IsOverByThen new = (new.left_ms ≤ new.lasted_ms)
    × (new.paused_ms ≤ new.lasted_ms) × (new.asked ≡ None → new.lasted_ms ≡ new.paused_ms)

-- By the clock the time for this turn was over as a pause was asked for, or the pause took none.
abbrev pub IsTimeOver : Patience → Type 0
IsTimeOver new = IsOverByThen new ⊎ (new.paused_none ≡ true)

-- it paused between its tries, so many at most
pub record HasPaused (old new : Patience) (tries : ℕ) : Type 0 where
  pub same : new ≡ record old {
    pauses = new.pauses;
    paused_ms = new.paused_ms;
    lasted_ms = new.lasted_ms;
    paused_none = new.paused_none;
  }
  pub paused : new.paused_ms ≡ pauses_ms new.pauses
  pub within : new.pauses ≤ tries - 1

-- How a turn was waited for: no longer than there was time for, and not at all for a minute after a missed turn; and
-- that counts within this minute.
pub record HasWaited (old new : Patience) (seconds : ℕ) : Type 0 where
  pub left : new.left_ms ≡ min seconds LONGEST * 1_000 - waited_before old new.asked
  pub paused : new.paused_ms ≡ pauses_ms new.pauses
  pub within : new.paused_ms ≤ new.left_ms
  pub at_once : has_one_try old new.asked ≡ true → new.pauses ≡ 0
  pub counted : counted (waited_before old new.asked + new.paused_ms) ≤ new.waited_ms

-- It isn't waited for any longer: it was put off, and waited for before, or there is one try, or no time for one pause
-- more, or by the clock the time was over.
abbrev pub IsGivenUp : Patience → Patience → Type 0
IsGivenUp old new = (old.goes_on ≡ true) ⊎ (has_one_try old new.asked ≡ true) ⊎ (new.left_ms < pauses_ms (new.pauses + 1)) ⊎ IsTimeOver new

-- whether one was missed within the last minute stays as it was as this turn was asked for
pub record KeepsMiss (old new : Patience) : Type 0 where
  pub was_missed : new.was_missed ≡ has_one_try old new.asked
  pub missed : new.missed ≡ old.missed
