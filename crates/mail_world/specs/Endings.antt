-- How the bytes of a mailbox end, and what mends them: what is appended so that a record may follow (RFC 4155, Appendix
-- A: an empty line stands before each From line but the first), and so that a letter before it keeps its lines.
use Rattle.std.specs.Prelude.{ℕ, ◌-◌, ◌==◌, nat_le, List, [], ◌∷◌, ◌++◌, length, codes, if◌then◌else◌}
use Rattle.std.specs.Str.{byte}
use Rattle.mail_world.specs.declared.limits.TheConstants.{TAIL_SIZE}
use Rattle.mail_world.specs.Text.{lf}
use Rattle.mail_world.specs.FromLines.{missing_first, missing_after}

-- a part of `From `, but not all of it
pub data Part : Type 0 where
  F : Part
  Fr : Part
  Fro : Part
  From : Part

-- How bytes end: there are none; with a part of `From ` where a letter may begin, which is at the start or after an
-- empty line; within a From line, which has room for that many bytes more, and of which that is missing; in any other
-- line; with the end of a line; with an empty line.
pub data Ending : Type 0 where
  Empty : Ending
  Begun : Part → Ending
  InFromLine : ℕ → List ℕ → Ending
  NoLf : Ending
  OneLf : Ending
  TwoLf : Ending

-- A From line that is filled up stands, with the two LFs before it, in the last TAIL_SIZE bytes, of which no more are
-- looked at. So much of it may follow `From `.
abbrev pub from_line_room : ℕ
from_line_room = TAIL_SIZE - 7

-- a longer one is a line as any other
abbrev pub in_from_line : ℕ → List ℕ → Ending
in_from_line room missing = if nat_le (length missing) room then InFromLine room missing else NoLf

abbrev pub in_line : ℕ → Ending
in_line b = if b == lf then OneLf else NoLf

-- with one byte more
abbrev pub next_part : Part → ℕ → Ending
next_part F b = if b == byte "r" then Begun Fr else in_line b
next_part Fr b = if b == byte "o" then Begun Fro else in_line b
next_part Fro b = if b == byte "m" then Begun From else in_line b
next_part From b = if b == byte " " then InFromLine from_line_room missing_first else in_line b

abbrev pub next : Ending → ℕ → Ending
next Empty b = if b == byte "F" then Begun F else in_line b
next (Begun part) b = next_part part b
next (InFromLine room missing) b = if b == lf then OneLf else in_from_line (room - 1) (missing_after missing b)
next NoLf b = in_line b
next OneLf b = if b == lf then TwoLf else NoLf
next TwoLf b = if b == byte "F" then Begun F else if b == lf then TwoLf else NoLf

abbrev pub ending_from : Ending → List ℕ → Ending
ending_from e [] = e
ending_from e (b ∷ bytes) = ending_from (next e b) bytes

abbrev pub ending : List ℕ → Ending
ending bytes = ending_from Empty bytes

-- what is missing of `From `
abbrev pub part_rest : Part → List ℕ
part_rest F = codes "rom "
part_rest Fr = codes "om "
part_rest Fro = codes "m "
part_rest From = codes " "

-- What mends bytes that end so: the fewest LFs after which they end in two, unless there are none; but a From line that
-- breaks off is filled up first, if only its first byte is there, so that it begins a letter and is no line of the one
-- before it.
abbrev pub mends : Ending → List ℕ
mends Empty = []
mends (Begun part) = part_rest part ++ (missing_first ++ lf ∷ lf ∷ [])
mends (InFromLine room missing) = missing ++ lf ∷ lf ∷ []
mends NoLf = lf ∷ lf ∷ []
mends OneLf = lf ∷ []
mends TwoLf = []

abbrev pub mended : List ℕ → List ℕ
mended old = mends (ending old)
