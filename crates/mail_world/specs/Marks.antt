-- Marks: fields of a message's head that programs which read mailboxes take for their own (flags, numbers, lengths).
-- Whoever sends a message may write such fields, so a site may have them renamed.
use Rattle.std.specs.Prelude.{ℕ, zero, suc, Bool, true, false, ◌&&◌, ◌||◌, ◌==◌, List, [], ◌∷◌, ◌++◌, length, drop}
use Rattle.std.specs.Prelude.{map, flat_map, if◌then◌else◌, codes}
use Rattle.std.specs.List.{list_any, onto_first}
use Rattle.std.specs.Char.{to_ascii_lowercase}
use Rattle.std.specs.Str.{byte}
use Rattle.mail_world.specs.Text.{cr, lf, has_byte, begins_with}

-- what stands before the first empty line, all where there is none (RFC 5322, 2.1). `at_start`: the text stands at the
-- beginning of a line
abbrev pub head_from : Bool → List ℕ → List ℕ
head_from at_start [] = []
head_from at_start (b ∷ text) = if at_start && (b == lf) then [] else b ∷ head_from (b == lf) text

abbrev pub head : List ℕ → List ℕ
head text = head_from true text

abbrev pub after_head : List ℕ → List ℕ
after_head text = drop (length (head text)) text

-- the fields of a head: each ends with an LF or a CR, where Python ends a line too
abbrev pub ends_field : ℕ → Bool
ends_field b = (b == lf) || (b == cr)

abbrev pub fields : List ℕ → List (List ℕ)
fields [] = []
fields (b ∷ text) = if ends_field b then (b ∷ []) ∷ fields text else onto_first b (fields text)

-- the names of marks
abbrev pub mark_names : List (List ℕ)
mark_names =
    codes "Status" ∷ codes "X-Status" ∷ codes "X-UID" ∷ codes "X-Keywords" ∷ codes "X-IMAP" ∷ codes "X-IMAPbase"
    ∷ codes "Content-Length" ∷ []

-- what a mark is renamed by
abbrev pub was : List ℕ
was = codes "X-Was-"

-- what programs end a name by: a colon, white space within a line (VT and FF too, which C's isspace takes), or a NUL,
-- which ends a text in C
abbrev pub ends_name : ℕ → Bool
ends_name b = has_byte (codes ": \t\0\u{b}\u{c}") b

-- the field begins with that name, whatever the case of its letters, and then a byte that ends one
abbrev pub has_name : List ℕ → List ℕ → Bool
has_name name [] = false
has_name [] (b ∷ field) = ends_name b
has_name (c ∷ name) (b ∷ field) = (to_ascii_lowercase c == to_ascii_lowercase b) && has_name name field

abbrev pub is_named : List ℕ → Bool
is_named field = list_any (λ name. has_name name field) mark_names

-- it begins with the name of a mark, or with that after `X-Was-`, at most n times
abbrev pub is_mark_within : ℕ → List ℕ → Bool
is_mark_within zero field = is_named field
is_mark_within (suc n) field = is_named field || begins_with was field && is_mark_within n (drop (length was) field)

-- or any number of times
abbrev pub is_mark : List ℕ → Bool
is_mark field = is_mark_within (length field) field

-- a field with a mark's name changed, and as it was before
abbrev pub marked_field : List ℕ → List ℕ
marked_field field = if is_mark field then was ++ field else field

abbrev pub unmarked_field : List ℕ → List ℕ
unmarked_field field =
    let rest = drop (length was) field in if begins_with was field && is_mark rest then rest else field

-- the text with each mark of its head renamed, and with each such name changed back
unfoldable pub marked : List ℕ → List ℕ
marked text = flat_map marked_field (fields (head text)) ++ after_head text

unfoldable pub unmarked : List ℕ → List ℕ
unmarked text = flat_map unmarked_field (fields (head text)) ++ after_head text

-- an address as the From line has it, where each program reads it as one word
abbrev pub plain_address : List ℕ → List ℕ
plain_address sender = map (λ b. if has_byte (codes " \"\\") b then byte "-" else b) sender
