-- What a buffer before a stream has and lends.
use Rattle.std.specs.Prelude.{◌≡◌, ◌-◌, ◌++◌, ◌≤◌, ◌<◌, ℕ, List, [], length, take, drop, Result, MatchResult, Option}
use Rattle.std.specs.Io.KnownBytes.{Consumes, Keeps, IsAtEnd}
use Rattle.lmtp_talk.specs.declared.read_buffer.ReadBuffer.{ReadBuffer}
use Rattle.lmtp_talk.specs.declared.read_buffer.TheConstants.{PIECE_LIMIT}

-- the bytes that were read and are still to be lent
abbrev pub waiting : ReadBuffer → List ℕ
waiting b = take (b.end - b.start) (drop b.start b.bytes.items)

-- those that it lends now
abbrev pub piece_of : ReadBuffer → List ℕ
piece_of b = take (b.start - b.lent) (drop b.lent b.bytes.items)

-- a read of the stream: that many bytes of it stand here now, none only at its end; and where it failed nothing came
abbrev pub Refills : {E : Type 0} → Option (List ℕ) → Option (List ℕ) → Result ℕ E → List ℕ → Type 0
Refills old new result came = MatchResult result
    (λ n. (n ≡ length came) × Consumes old new came × (n ≡ 0 → IsAtEnd new))
    (λ _. Keeps old new × (came ≡ []))

-- what waited was the n bytes that are lent now, and what waits now; none only where none waited
pub record Lends (old lent new : List ℕ) (n : ℕ) : Type 0 where
  pub lends : old ≡ lent ++ new
  pub count : n ≡ length lent
  pub within : n ≤ PIECE_LIMIT
  pub some : 0 < length old → 0 < n
