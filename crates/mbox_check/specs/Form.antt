-- Whether bytes have the form of a mailbox (RFC 4155, Appendix A), the first place at which they don't, and the first NUL.
use Rattle.std.specs.Prelude.{◌≡◌, ◌+◌, ◌-◌, ◌<◌, ◌≤◌, ℕ, suc, List, [], ◌∷◌, ◌++◌, length, take, true, false, Option, None, Some, MatchResult, ⊤}
use Rattle.mail_world.specs.Counts.{counted}
use Rattle.mail_world.specs.Malformed.{nul}
use Rattle.mail_world.specs.Reading.{Letter, AreLetters, written}
use Rattle.mail_world.specs.Text.{place_of}
use Rattle.mbox_letters.specs.Letters.{is_boundary}
use Rattle.mbox_check.specs.declared.fault.BadForm.{BadForm}
use Rattle.mbox_check.specs.declared.fault.BadForm.TheVariants.{NoFromLine, NoEmptyLine}
use Rattle.mbox_check.specs.declared.found.Found.{Found}
use Rattle.mbox_check.specs.declared.found.NulAt.{NulAt}

-- the text is a mailbox of these letters
pub record IsMailboxOf (text : List ℕ) (letters : List Letter) : Type 0 where
  pub are : AreLetters letters
  pub whole : written letters ≡ text

-- a mailbox begins with the text
pub record BeginsMailbox (text : List ℕ) : Type 0 where
  pub more : List ℕ
  pub letters : List Letter
  pub is : IsMailboxOf (text ++ more) letters

-- The least place that breaks the form: a mailbox begins with the bytes before it, and none with these and the byte at
-- it. It is the end of the text where a mailbox begins with all of it and it isn't one.
pub record BreaksAt (text : List ℕ) (place : ℕ) : Type 0 where
  pub within : place ≤ length text
  pub before : BeginsMailbox (take place text)
  pub breaks : place < length text → BeginsMailbox (take (suc place) text) → ⊥
  pub short : place ≡ length text → (letters : List Letter) → IsMailboxOf text letters → ⊥

-- The letter in which the text breaks off at the place: a mailbox that begins with the bytes before the place has that
-- many letters, and the From line of the last begins at `start`, among these bytes. No other two numbers are so, since
-- each text is read as letters in one way.
pub record IsInLetter (text : List ℕ) (place number start : ℕ) : Type 0 where
  pub more : List ℕ
  pub before : List Letter
  pub last : Letter
  pub is : IsMailboxOf (take place text ++ more) (before ++ last ∷ [])
  pub numbered : number ≡ suc (length before)
  pub starts : start ≡ length (written before)
  pub begun : start + 5 ≤ place

-- where a From line begins, with four bytes of it before the byte that shows it
abbrev pub counted_start : ℕ → ℕ
counted_start start = counted (start + 4) - 4

-- what is wrong with the text: a From line is missing at its beginning, or else an empty line, in the letter named
abbrev pub IsBad : List ℕ → BadForm → Type 0
IsBad text (NoFromLine place) = (is_boundary text ≡ false) × ((p : ℕ) × (place ≡ counted p) × BreaksAt text p)
IsBad text (NoEmptyLine place letter start) =
    (is_boundary text ≡ true) × ((p k s : ℕ) × (place ≡ counted p) × (letter ≡ counted k) × (start ≡ counted_start s) × BreaksAt text p
    × IsInLetter text p k s)

-- as many letters as the text has
abbrev pub IsLetterCount : List ℕ → ℕ → Type 0
IsLetterCount text count = (letters : List Letter) × IsMailboxOf text letters × (count ≡ counted (length letters))

-- The first NUL of the text is told: its place, and the letter in which the text would break off right after it.
pub record IsFirstNul (text : List ℕ) (told : NulAt) : Type 0 where
  pub p : ℕ
  pub number : ℕ
  pub s : ℕ
  pub first : place_of (nul ∷ []) text ≡ Some p
  pub within : IsInLetter text (suc p) number s
  pub is : told ≡ record { place = counted p; letter = counted number; start = counted_start s }

-- what is told of NULs: the first one of the text, or that it has none
abbrev pub TellsNul : List ℕ → Option NulAt → Type 0
TellsNul text None = place_of (nul ∷ []) text ≡ None
TellsNul text (Some told) = IsFirstNul text told

-- What is found of the text: as many letters as it has, or what is wrong with it; and the first NUL of a mailbox, or else
-- of what stands before the place that breaks the form.
pub record IsFound (text : List ℕ) (found : Found) : Type 0 where
  pub form : MatchResult found.letters (IsLetterCount text) (IsBad text)
  pub of_all : (letters : List Letter) → IsMailboxOf text letters → TellsNul text found.nul
  pub of_sound : (place : ℕ) → BreaksAt text place → TellsNul (take place text) found.nul

-- the same of bytes of which only some readers tell
abbrev pub IsFoundOf : Option (List ℕ) → Found → Type 0
IsFoundOf None found = ⊤
IsFoundOf (Some text) found = IsFound text found
