-- Counts of failures.
use Rattle.std.specs.Prelude.{◌≡◌, ℕ, ◌-◌, ◌^◌, ◌<◌, ◌⊎◌}

-- a count that stops at 2^64 - 1 went up
abbrev pub Rises : ℕ → ℕ → Type 0
Rises old new = (old < new) ⊎ ((old ≡ 2 ^ 64 - 1) × (new ≡ 2 ^ 64 - 1))
