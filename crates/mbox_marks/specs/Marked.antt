-- Marks as they are found in a piece of the message.
use Rattle.std.specs.Prelude.{◌≡◌, ℕ, ◌+◌, ◌-◌, ◌*◌, ◌<◌, ◌≤◌, Bool, true, false, not, List, [], ◌++◌, length}
use Rattle.std.specs.Prelude.{take, drop, if◌then◌else◌}
use Rattle.std.specs.Prelude.{Option, Some, None}
use Rattle.std.specs.List.{list_all}
use Rattle.std.specs.Char.{to_ascii_lowercase}
use Rattle.mail_world.specs.Text.{begins_with}
use Rattle.mail_world.specs.Marks.{ends_field, was, is_mark}
use Rattle.mbox_marks.specs.declared.marking.Place.TheVariants.{Line, Field, Inside, Body}
use Rattle.mbox_marks.specs.declared.marking.Start.{Start}
use Rattle.mbox_marks.specs.declared.marking.Start.TheVariants as starts
use Rattle.mbox_marks.specs.declared.marking.Step.{Step}
use Rattle.mbox_marks.specs.declared.marking.Step.TheVariants as steps
use Rattle.mbox_marks.specs.declared.marking.Found.{Found}
use Rattle.mbox_marks.specs.Marking.{Place, marks_owed, is_unended}

-- no field ends within the name, whatever the case of its letters
abbrev pub is_plain_name : List ℕ → Bool
is_plain_name name = list_all (λ c. not (ends_field (to_ascii_lowercase c))) name

-- more bytes tell: there are few, they are of one field, and by themselves they don't pass the test
pub record IsBegun (bytes : List ℕ) (test : List ℕ → Bool) : Type 0 where
  pub few : length bytes ≤ 14
  pub unended : is_unended bytes ≡ true
  pub other : test bytes ≡ false

-- whether a text that begins with these bytes passes the test, whatever follows them
abbrev pub Tells : Option Bool → List ℕ → (List ℕ → Bool) → Type 0
Tells (Some is) bytes test = (rest : List ℕ) → test (bytes ++ rest) ≡ is
Tells None bytes test = IsBegun bytes test

-- whether one of two tests passes
abbrev pub either : Option Bool → Option Bool → Option Bool
either (Some true) second = Some true
either (Some false) second = second
either None (Some true) = Some true
either None (Some false) = None
either None None = None

-- what the first bytes of a field say of it
abbrev pub IsStart : List ℕ → Start → Type 0
IsStart bytes starts.Mark = Tells (Some true) bytes is_mark
IsStart bytes starts.Was = begins_with was bytes ≡ true
IsStart bytes starts.Begun = Tells None bytes is_mark
IsStart bytes starts.Other = Tells (Some false) bytes is_mark

-- a step within a field or past the head takes a byte at least; any other may only settle what the field is
abbrev pub place_weight : Place → ℕ
place_weight Line = 1
place_weight Field = 1
place_weight Inside = 0
place_weight Body = 0

-- the first n bytes stay as they are
pub record GoesOn (place : Place) (bytes : List ℕ) (n : ℕ) (next : Place) : Type 0 where
  pub within : n ≤ length bytes
  pub smaller : 2 * (length bytes - n) + place_weight next < 2 * length bytes + place_weight place
  pub goes : (rest : List ℕ) → take n bytes ++ marks_owed next (drop n bytes ++ rest) ≡ marks_owed place (bytes ++ rest)

-- a mark begins with the bytes
pub record BeginsMark (place : Place) (bytes : List ℕ) : Type 0 where
  pub weight : place_weight place ≡ 1
  pub goes : (rest : List ℕ) → was ++ marks_owed Inside (bytes ++ rest) ≡ marks_owed place (bytes ++ rest)

-- the bytes may be held back: there are few, and they stay as they are if nothing follows
pub record MayBeHeld (place : Place) (bytes : List ℕ) : Type 0 where
  pub few : length bytes ≤ 14
  pub whole : marks_owed place bytes ≡ bytes

abbrev pub IsStep : Place → List ℕ → Step → Type 0
IsStep place bytes (steps.On n next) = GoesOn place bytes n next
IsStep place bytes steps.Mark = BeginsMark place bytes
IsStep place bytes steps.Held = MayBeHeld place bytes

-- The first `at` bytes stay as they are; then there is a mark, or the others are held back.
pub record FindsMark (place : Place) (bytes : List ℕ) (found : Found) : Type 0 where
  pub within : found.at ≤ length bytes
  pub goes : (rest : List ℕ)
      → take found.at bytes
      ++ ((if found.is_mark then was else []) ++ marks_owed found.place (drop found.at bytes ++ rest))
      ≡ marks_owed place (bytes ++ rest)
  pub inside : found.is_mark ≡ true → found.place ≡ Inside
  pub smaller : found.is_mark ≡ true → 2 * (length bytes - found.at) < 2 * length bytes + place_weight place
  pub held : found.is_mark ≡ false → MayBeHeld found.place (drop found.at bytes)
