-- What a reader of a mailbox has read so far.
use Rattle.std.specs.Prelude.{◌≡◌, ℕ, suc, true, false, ◌==◌, List, [], ◌∷◌, ◌++◌, None, map, length, codes}
use Rattle.std.specs.List.{AllByRecursion}
use Rattle.mail_world.specs.Counts.{counted}
use Rattle.mail_world.specs.Malformed.{nul}
use Rattle.mail_world.specs.Text.{lf, place_of, with_lf, IsOneLine}
use Rattle.mail_world.specs.Records.{quoted}
use Rattle.mail_world.specs.Reading.{Letter, AreLetters, written}
use Rattle.mbox_letters.specs.Letters.{is_boundary}
use Rattle.mbox_check.specs.declared.form.FormCheck.{FormCheck}
use Rattle.mbox_check.specs.declared.found.Found.{Found}
use Rattle.mbox_check.specs.declared.state.Part.{Part}
use Rattle.mbox_check.specs.declared.state.FormState.{FormState}
use Rattle.mbox_check.specs.declared.state.FormState.TheVariants.{Start, Open, Line, Inside}
use Rattle.mbox_check.specs.Form.{IsFound, TellsNul, counted_start}
use Rattle.mbox_check.specs.States.{part_text}

-- the last byte isn't LF
pub record EndsInLine (text : List ℕ) : Type 0 where
  pub prefix : List ℕ
  pub last : ℕ
  pub whole : text ≡ prefix ++ last ∷ []
  pub other : (last == lf) ≡ false

-- how many letters have begun, and where the last of them did; any place before there is one
pub record Begun : Type 0 where
  pub count : ℕ
  pub start : ℕ

-- that many letters have begun, the last there, and the text ends after a line of it
pub record IsBody (text : List ℕ) (n : Begun) : Type 0 where
  pub letters : List Letter
  pub are : AreLetters letters
  pub count : n.count ≡ suc (length letters)
  pub starts : n.start ≡ length (written letters)
  pub head : List ℕ
  pub headed : IsOneLine head
  pub ls : List (List ℕ)
  pub one : AllByRecursion IsOneLine ls
  pub whole : text ≡ written letters ++ (codes "From " ++ (head ++ lf ∷ with_lf (map quoted ls)))

-- a part of `From ` stands after an empty line
pub record IsOpen (text : List ℕ) (n : Begun) (part : Part) : Type 0 where
  pub before : List ℕ
  pub body : IsBody before n
  pub whole : text ≡ (before ++ lf ∷ []) ++ part_text part

-- it stands after a line that isn't empty
pub record IsLine (text : List ℕ) (n : Begun) (part : Part) : Type 0 where
  pub before : List ℕ
  pub ends : EndsInLine before
  pub body : IsBody (before ++ lf ∷ []) n
  pub whole : text ≡ (before ++ lf ∷ []) ++ part_text part

-- whatever ends the line makes it a line of the last letter
pub record IsInsideLine (text : List ℕ) (n : Begun) : Type 0 where
  pub ends : EndsInLine text
  pub begins : (more : List ℕ) → is_boundary (text ++ more) ≡ true
  pub goes : (more : List ℕ) → IsOneLine more → IsBody (text ++ (more ++ lf ∷ [])) n

-- the text, in which that many letters have begun, the last there, ends in that state
abbrev pub EndsAt : List ℕ → Begun → FormState → Type 0
EndsAt text n (Start part) = (n.count ≡ 0) × (text ≡ part_text part)
EndsAt text n (Open part) = IsOpen text n part
EndsAt text n (Line part) = IsLine text n part
EndsAt text n Inside = IsInsideLine text n

pub record IsReadSoFar (text : List ℕ) (form : FormCheck) : Type 0 where
  pub n : Begun
  pub count : form.letters ≡ counted n.count
  pub taken : form.taken ≡ counted (length text)
  pub start : form.start ≡ counted_start n.start
  pub at : EndsAt text n form.state
  pub told : TellsNul text form.nul

-- bytes of a line of which the rest is free, without its end and without NUL
pub record IsFree (state : FormState) (bytes : List ℕ) : Type 0 where
  pub inside : state ≡ Inside
  pub one : IsOneLine bytes
  pub none : place_of (nul ∷ []) bytes ≡ None

-- whatever came before, the bytes came after it
pub record ReadsOn (old new : FormCheck) (bytes : List ℕ) : Type 0 where
  pub goes : (prefix : List ℕ) → IsReadSoFar prefix old → IsReadSoFar (prefix ++ bytes) new

-- whatever came before, and whatever comes after them, the bytes break the form, and that is found of the text
pub record BreaksIn (old : FormCheck) (bytes : List ℕ) (found : Found) : Type 0 where
  pub goes : (prefix more : List ℕ) → IsReadSoFar prefix old → IsFound (prefix ++ (bytes ++ more)) found
