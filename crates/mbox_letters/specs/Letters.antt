-- How the letters of a mailbox are read (RFC 4155, Appendix A).
use Rattle.std.specs.Prelude.{◌≡◌, ℕ, Bool, true, false, ◌&&◌, ◌==◌, List, [], ◌∷◌, ◌++◌, codes}
use Rattle.std.specs.Str.{byte}
use Rattle.mail_world.specs.Text.{lf, begins_with, IsOneLine, EmptyOrEndsIn}
use Rattle.mail_world.specs.Records.{is_from_line, quoted_text}
use Rattle.mail_world.specs.Reading.{Letter, IsLetter, letter_text}

abbrev pub letter_headed : List ℕ → List ℕ → Letter
letter_headed first rest = record { head = first; body = rest }

-- where a letter may begin and the one before it end: nothing follows, or a From line does
abbrev pub is_boundary : List ℕ → Bool
is_boundary [] = true
is_boundary (b ∷ text) = begins_with (codes "From ") (b ∷ text)

-- the line is one or more `>` and then `From `
abbrev pub is_quoted : List ℕ → Bool
is_quoted [] = false
is_quoted (b ∷ line) = (b == byte ">") && is_from_line line

-- the text is a line with its LF, and then the rest
pub record IsLineCut (text line rest : List ℕ) : Type 0 where
  pub one : IsOneLine line
  pub whole : text ≡ line ++ lf ∷ rest

-- the text after a From line is this body, an empty line, and then the rest, where the letter ends
pub record IsBodyRead (text body rest : List ℕ) : Type 0 where
  pub lines : EmptyOrEndsIn (lf ∷ []) body
  pub whole : text ≡ quoted_text body ++ lf ∷ rest
  pub ends : is_boundary rest ≡ true

-- the text is this letter, and then the rest, where the letter ends
pub record IsLetterRead (text : List ℕ) (letter : Letter) (rest : List ℕ) : Type 0 where
  pub is : IsLetter letter
  pub whole : text ≡ letter_text letter ++ rest
  pub ends : is_boundary rest ≡ true
