-- A message whose marks are renamed while it comes: what is still owed of it. Its lines end with LF or CRLF here.
use Rattle.std.specs.Prelude.{ℕ, Bool, true, false, not, ◌&&◌, ◌||◌, ◌==◌, List, [], ◌∷◌, ◌++◌, if◌then◌else◌}
use Rattle.std.specs.List.{list_all}
use Rattle.mail_world.specs.Text.{cr, lf, begins}
use Rattle.mail_world.specs.Marks.{ends_field, was, is_mark}
use Rattle.mbox_marks.specs.declared.marking.Place.{Place as Declared}
use Rattle.mbox_marks.specs.declared.marking.Place.TheVariants.{Line, Field, Inside, Body}

-- where in the message a writer stands
abbrev pub Place : Type 0
Place = Declared

-- an empty line ends the head: the text stands at the beginning of one
abbrev pub is_empty_line : List ℕ → Bool
is_empty_line [] = false
is_empty_line (b ∷ text) = (b == lf) || (b == cr) && begins lf text

-- The rest of the message with the marks of its head renamed. `at_field`, `at_line`: it stands at the beginning of a
-- field, of a line.
abbrev pub renamed_from : Bool → Bool → List ℕ → List ℕ
renamed_from at_field at_line [] = []
renamed_from at_field at_line (b ∷ text) =
    if at_line && is_empty_line (b ∷ text) then b ∷ text
    else (if at_field && is_mark (b ∷ text) then was else []) ++ (b ∷ renamed_from (ends_field b) (b == lf) text)

-- what is still owed if this is the rest of the message
abbrev pub marks_owed : Place → List ℕ → List ℕ
marks_owed Line text = renamed_from true true text
marks_owed Field text = renamed_from true false text
marks_owed Inside text = renamed_from false false text
marks_owed Body text = text

-- no field ends within the text
abbrev pub is_unended : List ℕ → Bool
is_unended text = list_all (λ b. not (ends_field b)) text
