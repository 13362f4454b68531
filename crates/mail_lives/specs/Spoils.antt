-- Mailboxes behind whose kept bytes a crash left any others, as a file system may whose files grow before their bytes
-- are written; and what is found there, whatever the bytes are.
use Rattle.std.specs.Prelude.{◌≡◌, ℕ, Bool, true, false, ◌&&◌, List, [], ◌∷◌, ◌++◌, drop, codes, if◌then◌else◌, ⊤}
use Rattle.std.specs.List.{onto_first}
use Rattle.mail_world.specs.Text.{begins_with, lines}
use Rattle.mail_world.specs.Endings.{mended}
use Rattle.mail_world.specs.Reading.{Letter, IsLetter, letter_text}

-- ---- what is found in any bytes

abbrev pub Lines : Type 0
Lines = List (List ℕ)

abbrev pub is_empty : List ℕ → Bool
is_empty [] = true
is_empty (b ∷ line) = false

-- Lines, cut before each that begins with `From ` and is the first one or follows an empty one.
abbrev pub cut : Bool → Lines → List Lines
cut after_empty [] = [] ∷ []
cut after_empty (line ∷ ls) =
    if after_empty && begins_with (codes "From ") line
    then [] ∷ onto_first line (cut (is_empty line) ls)
    else onto_first line (cut (is_empty line) ls)

-- the lines of each letter; what stands before the first one is no letter
abbrev pub found : List ℕ → List Lines
found bytes = drop 1 (cut true (lines bytes))

-- of a letter as it is written, the empty one after it too
abbrev pub own_lines : Letter → Lines
own_lines letter = lines (letter_text letter)

-- ---- what happens

-- a letter is added, whole, behind what mends the bytes; or a crash leaves any bytes behind those that stood there
pub data Move : Type 0 where
  Adds : Letter → Move
  Spoils : List ℕ → Move

abbrev pub MoveLeaves : Move → List ℕ → List ℕ → Type 0
MoveLeaves (Adds letter) old new = new ≡ old ++ (mended old ++ letter_text letter)
MoveLeaves (Spoils bytes) old new = new ≡ old ++ bytes

abbrev pub MovesLeave : List Move → List ℕ → List ℕ → Type 0
MovesLeave [] old new = new ≡ old
MovesLeave (move ∷ moves) old new =
    (between : List ℕ) × MoveLeaves move old between × MovesLeave moves between new

-- letters as they can be written
abbrev pub AreWhole : List Move → Type 0
AreWhole [] = ⊤
AreWhole (Adds letter ∷ moves) = IsLetter letter × AreWhole moves
AreWhole (Spoils bytes ∷ moves) = AreWhole moves

-- ---- what is found then

-- a letter gains lines only where the next move spoils
abbrev pub MayGain : List Move → Lines → Type 0
MayGain (Spoils bytes ∷ moves) gained = ⊤
MayGain _ gained = gained ≡ []

-- Each letter that was added is found, once and in its order: one begins with all its lines, and has no others but
-- where it was the last one when the mailbox was spoilt. Further ones may be found where it was spoilt, and nowhere
-- else.
abbrev pub AreFound : List Move → List Lines → Type 0
AreFound [] all = all ≡ []
AreFound (Adds letter ∷ moves) all =
    (gained : Lines) × (rest : List Lines) × (all ≡ (own_lines letter ++ gained) ∷ rest)
    × MayGain moves gained × AreFound moves rest
AreFound (Spoils bytes ∷ moves) all =
    (further : List Lines) × (rest : List Lines) × (all ≡ further ++ rest) × AreFound moves rest
