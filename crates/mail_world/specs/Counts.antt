-- Counts that a machine keeps.
use Rattle.std.specs.Prelude.{ℕ, ◌^◌, ◌-◌, min}

-- a count that stays at its largest value
abbrev pub counted : ℕ → ℕ
counted n = min n (2 ^ 64 - 1)
