-- Who has a lock file, and when it is left behind.
use Rattle.std.specs.Prelude.{◌≡◌, ◌≢◌, ℕ, ◌-◌, ◌≤◌, Bool, true, ◌||◌, ◌&&◌, cond, List, slice_index, nat_lt}
use Rattle.std.specs.Str.Parse.{IsNumeral, digits_value}
use Rattle.mbox_locks.specs.declared.holder.Holder.{Holder}
use Rattle.mbox_locks.specs.declared.holder.Holder.TheVariants.{Unknown, Alive, Nobody}

-- a number from 1 to 2^31 - 1 in decimal, whose first digit isn't 0
pub record NamesProcess (text : List ℕ) (process : ℕ) : Type 0 where
  pub digits : IsNumeral 10 text
  pub plain : slice_index text 0 ≢ 48
  pub value : process ≡ digits_value 10 text
  pub within : process ≤ 2_147_483_647

-- Of a lock file that names a process, and no other host than this: whether the process is the one who asks, whether it
-- is gone, and whether that is believed at once, since the lock file is the server's user's and names this host.
abbrev pub holder_here : Bool → Bool → Bool → Holder
holder_here is_own is_gone is_believed =
    cond (is_believed && (is_own || is_gone)) Nobody (cond is_gone Unknown Alive)

-- A lock file of that age is left behind, on a host that was booted so many seconds ago.
abbrev pub is_left : Holder → ℕ → ℕ → Bool
is_left Unknown age since_boot = nat_lt 300 age
is_left Alive age since_boot = nat_lt 300 age && nat_lt since_boot age
is_left Nobody age since_boot = true

-- What a lock file says is looked at where it is the server's user's, or once it is that old. Whatever another user's
-- says, it stays until then, and who owns a file may have its opening wait.
abbrev pub is_opened : Bool → ℕ → Bool
is_opened is_own_user age = is_own_user || nat_lt 300 age

-- How old a lock file is now, by the time that it was given and by the one at which the system changed it: this one
-- where the first is ahead. One that is ahead too is now's.
abbrev pub age_at : ℕ → ℕ → ℕ → ℕ
age_at now modified changed = cond (nat_lt now modified) (now - changed) (now - modified)
