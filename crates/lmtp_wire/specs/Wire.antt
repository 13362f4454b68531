-- Where a wire stands in the bytes of a line (RFC 5321, 2.3.8), and what it answers.
use Rattle.std.specs.Prelude.{◌≡◌, ℕ, ◌+◌, ◌-◌, ◌<◌, ◌≤◌, List, [], ◌∷◌, ◌++◌, length, take, Option, Some, None}
use Rattle.std.specs.Prelude.{option_map}
use Rattle.mail_world.specs.Text.{cr, crlf, place_of, ends_in}
use Rattle.mail_world.specs.declared.limits.TheConstants.{LINE_LIMIT}
use Rattle.lmtp_wire.specs.declared.wire.Stage.{Stage}
use Rattle.lmtp_wire.specs.declared.wire.Stage.TheVariants.{Between, Within, Beyond}
use Rattle.lmtp_wire.specs.declared.wire.Got.{Got}
use Rattle.lmtp_wire.specs.declared.wire.Got.TheVariants.{More, Line, TooLong}
use Rattle.lmtp_wire.specs.declared.wire.Took.{Took}

-- what contracts see of a wire
pub record WireView : Type 0 where
  -- the last line, or what is kept of the line that goes on
  pub line : List ℕ
  pub stage : Stage

-- what is kept of the bytes of a line: all while they are no more than a line may have, then only whether the last is
-- CR
abbrev pub Keeps : Stage → List ℕ → List ℕ → Type 0
Keeps Between line taken = taken ≡ []
Keeps Within line taken = (line ≡ taken) × (length taken ≤ LINE_LIMIT)
Keeps (Beyond ends_in_cr) line taken = (line ≡ []) × (LINE_LIMIT < length taken)
    × (ends_in_cr ≡ ends_in (cr ∷ []) taken)

-- these bytes of a line were taken, and the line hasn't ended
pub record IsAfter (wire : WireView) (taken : List ℕ) : Type 0 where
  pub goes_on : place_of crlf taken ≡ None
  pub keeps : Keeps wire.stage wire.line taken

-- no line ends in the bytes: all of the piece was taken
pub record LineGoesOn (new : WireView) (bytes : List ℕ) (piece used : ℕ) : Type 0 where
  pub all : used ≡ piece
  pub after : IsAfter new bytes

-- a line ends in the bytes, and what was taken ends with its CRLF
pub record EndsLine (new : WireView) (bytes : List ℕ) (before used end : ℕ) : Type 0 where
  pub ends : place_of crlf bytes ≡ Some end
  pub taken : before + used ≡ end + 2
  pub after : IsAfter new []

abbrev pub TakesBy : Got → WireView → List ℕ → ℕ → ℕ → ℕ → Type 0
TakesBy More new bytes before piece used = LineGoesOn new bytes piece used
TakesBy Line new bytes before piece used = (end : ℕ) × EndsLine new bytes before used end × (end + 2 ≤ LINE_LIMIT)
    × (new.line ≡ take end bytes)
TakesBy TooLong new bytes before piece used = (end : ℕ) × EndsLine new bytes before used end × (LINE_LIMIT < end + 2)
    × (new.line ≡ [])

abbrev pub Takes : WireView → List ℕ → ℕ → ℕ → Took → Type 0
Takes new bytes before piece took = TakesBy took.got new bytes before piece took.used

-- whether the line that began with the bytes taken ends in the piece, and how many bytes of the piece it then has, its
-- CRLF among them
abbrev pub EndsIn : List ℕ → List ℕ → Option ℕ → Type 0
EndsIn taken piece None = place_of crlf (taken ++ piece) ≡ None
EndsIn taken piece (Some used) = (end : ℕ) × (place_of crlf (taken ++ piece) ≡ Some end)
    × (length taken + used ≡ end + 2)

-- what is answered to a line of these bytes, with its CRLF at their end
abbrev pub IsLineEnd : Got → WireView → List ℕ → Type 0
IsLineEnd More new bytes = ⊥
IsLineEnd Line new bytes = IsAfter new [] × (length bytes ≤ LINE_LIMIT) × (new.line ≡ take (length bytes - 2) bytes)
IsLineEnd TooLong new bytes = IsAfter new [] × (LINE_LIMIT < length bytes) × (new.line ≡ [])

-- the line that a text begins with, without its CRLF, where that is there
abbrev pub first_line : List ℕ → Option (List ℕ)
first_line text = option_map (λ n. take n text) (place_of crlf text)
