-- The bytes of the blocks, of which the first ones are made.
use Rattle.std.specs.Prelude.{ℕ, ◌+◌, ◌-◌, ◌++◌, List, length, take, drop, replicate}
use Rattle.mail_world.specs.declared.limits.TheConstants.{BLOCK_SIZE}

abbrev pub zeros : List ℕ
zeros = replicate BLOCK_SIZE 0

-- the made blocks, and zeros up to the count
abbrev pub padded : List (List ℕ) → ℕ → List (List ℕ)
padded made count = made ++ replicate (count - length made) zeros

-- a block's bytes with a piece at a place
abbrev pub with_piece : List ℕ → ℕ → List ℕ → List ℕ
with_piece row at piece = take at row ++ piece ++ drop (at + length piece) row
