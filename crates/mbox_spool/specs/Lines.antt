-- Lines that come in blocks of bytes, of which none may be a From line.
use Rattle.std.specs.Prelude.{◌≡◌, ℕ, zero, suc, ◌+◌, ◌<◌, ◌≤◌, Bool, ◌&&◌, ◌||◌, ◌==◌, List, [], ◌∷◌, ◌++◌}
use Rattle.std.specs.Prelude.{length, drop, if◌then◌else◌}
use Rattle.std.specs.Str.{byte}
use Rattle.mail_world.specs.Text.{lf}
use Rattle.mbox_spool.specs.declared.pending.Pending.TheVariants.{Inside}
use Rattle.mbox_spool.specs.Quoted.{Pending, quoted_owed}

-- how many of the first n bytes pass the test with the byte after them
abbrev pub pairs : (ℕ → ℕ → Bool) → ℕ → List ℕ → ℕ
pairs test zero text = 0
pairs test (suc n) [] = 0
pairs test (suc n) (b ∷ []) = 0
pairs test (suc n) (b ∷ c ∷ text) = (if test b c then 1 else 0) + pairs test n (c ∷ text)

-- an LF after it
abbrev pub ends_line : ℕ → ℕ → Bool
ends_line b c = c == lf

-- the first byte of a line that may be a From line
abbrev pub may_begin : ℕ → Bool
may_begin c = (c == byte ">") || (c == byte "F")

-- a line's end before a line that may be a From line
abbrev pub may_quote : ℕ → ℕ → Bool
may_quote b c = (b == lf) && may_begin c

-- the first `taken` bytes of the piece are written as a text of `len` bytes, and then the writer stands inside a line
pub record IsWriterLines (before : Pending) (piece : List ℕ) (len taken : ℕ) : Type 0 where
  pub text : List ℕ
  pub is : length text ≡ len
  pub shorter : len ≤ taken
  pub further : taken < length piece
  pub goes : (rest : List ℕ) → text ++ quoted_owed Inside (drop taken piece ++ rest)
      ≡ quoted_owed before (piece ++ rest)

-- the first LF after a byte of a block stands after that of number n
pub record IsFirstEnd (text : List ℕ) (n : ℕ) : Type 0 where
  pub within : n < 64
  pub none : pairs ends_line n text ≡ 0
  pub is : drop (n + 1) text ≡ lf ∷ drop (n + 2) text

-- a block with two bytes after it, and after no LF of it a line begins that may be a From line
pub record HasLines (piece : List ℕ) : Type 0 where
  pub longer : 65 < length piece
  pub plain : pairs may_quote 64 piece ≡ 0

-- inside of a line the first `taken` bytes of the piece are written as the text, and then the writer stands inside one
pub record CopiesLines (piece text : List ℕ) (taken : ℕ) : Type 0 where
  pub further : taken ≤ length piece
  pub goes : (rest : List ℕ) → text ++ quoted_owed Inside (drop taken piece ++ rest)
      ≡ quoted_owed Inside (piece ++ rest)
