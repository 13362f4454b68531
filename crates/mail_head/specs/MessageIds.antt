-- The Message-ID of a message, as its head has it (RFC 5322, 3.6.4). Lines end with CRLF here.
use Rattle.std.specs.Prelude.{ℕ, zero, suc, ◌+◌, Bool, false, ◌==◌, List, [], ◌∷◌, ◌++◌, length, take, drop}
use Rattle.std.specs.Prelude.{if◌then◌else◌, Option, Some, None, option_map, unwrap_or, codes}
use Rattle.std.specs.List.{prefix_len}
use Rattle.std.specs.Str.{byte}
use Rattle.mail_world.specs.declared.limits.TheConstants.{DATA_BUFFER_SIZE}
use Rattle.mail_world.specs.Text.{crlf, space, tab, has_byte, begins, place_of}
use Rattle.mail_world.specs.Commands.{trimmed, is_word}
use Rattle.mail_head.specs.declared.message_id.TheConstants.{MESSAGE_ID_LIMIT}

-- SP or TAB
abbrev pub is_blank : ℕ → Bool
is_blank b = has_byte (space ∷ tab ∷ []) b

abbrev pub begins_blank : List ℕ → Bool
begins_blank [] = false
begins_blank (b ∷ text) = is_blank b

abbrev pub after_blanks : List ℕ → List ℕ
after_blanks text = drop (prefix_len is_blank text) text

-- the line that a text begins with, without its CRLF (2.1), all where there is none; and what follows
abbrev pub line_len : List ℕ → ℕ
line_len text = unwrap_or (place_of crlf text) (length text)

abbrev pub line_of : List ℕ → List ℕ
line_of text = take (line_len text) text

abbrev pub after_line : List ℕ → List ℕ
after_line text = drop (line_len text + 2) text

-- the first n lines of a text, empty ones past its end
abbrev pub lines_within : ℕ → List ℕ → List (List ℕ)
lines_within zero text = []
lines_within (suc n) text = line_of text ∷ lines_within n (after_line text)

-- all of them: no text has more lines than bytes
abbrev pub lines_of : List ℕ → List (List ℕ)
lines_of text = lines_within (length text) text

-- what stands behind a colon, before which blanks may stand (4.5.4)
abbrev pub after_colon : List ℕ → Option (List ℕ)
after_colon text =
    let rest = after_blanks text in if begins (byte ":") rest then Some (drop 1 rest) else None

-- what a line has of the value of the field that it begins, where that is a Message-ID, in letters of any case
abbrev pub name : List ℕ
name = codes "Message-ID"

abbrev pub begun_value : List ℕ → Option (List ℕ)
begun_value line = if is_word name (take (length name) line) then after_colon (drop (length name) line) else None

-- what lines have that go on with a field: each begins with a blank, which goes with the CRLF before it (2.2.3)
abbrev pub folded_value : List (List ℕ) → List ℕ
folded_value [] = []
folded_value (line ∷ lines) = if begins_blank line then drop 1 line ++ folded_value lines else []

-- the value of the first Message-ID in the lines of a message. An empty line ends its head (2.1)
abbrev pub value_by : Option (List ℕ) → List ℕ → Option (List ℕ) → Option (List ℕ)
value_by None folded later = later
value_by (Some begun) folded later = Some (begun ++ folded)

abbrev pub first_value : List (List ℕ) → Option (List ℕ)
first_value [] = None
first_value (line ∷ lines) =
    if length line == 0 then None else value_by (begun_value line) (folded_value lines) (first_value lines)

-- what is kept of a value: no more than so many bytes, and no blanks at its ends
abbrev pub kept_value : List ℕ → List ℕ
kept_value value = trimmed (take MESSAGE_ID_LIMIT (after_blanks value))

-- what a message's first bytes tell, and thereby the message
abbrev pub id_in : List ℕ → Option (List ℕ)
id_in text = option_map kept_value (first_value (lines_of text))

unfoldable pub message_id_of : List ℕ → Option (List ℕ)
message_id_of message = id_in (take DATA_BUFFER_SIZE message)
