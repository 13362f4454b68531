-- Which mailboxes a text lists, one a line: its name, and after blanks its own quota, where it has one.
use Rattle.std.specs.Prelude.{◌≡◌, ◌==◌, ◌-◌, ◌+◌, ◌<◌, ◌||◌, not, ℕ, Bool, true, List, [], length, take, drop, map}
use Rattle.std.specs.Prelude.{get_or, Option, Some, None}
use Rattle.std.specs.Char.{is_ascii_whitespace}
use Rattle.std.specs.List.{before_first, filter, position_or_len, prefix_len, slice_split, suffix_len}
use Rattle.mail_world.specs.Text.{lf, space, tab}
use Rattle.lmtpd_words.specs.Quotas.{quota_of_word}
use Rattle.lmtpd_words.specs.declared.quotas.BoxQuota.{BoxQuota}
use Rattle.lmtpd_words.specs.declared.quotas.BoxQuota.TheVariants.{Asked}

-- a text without the white space that it begins with: spaces, tabs, CR, LF and form feeds
abbrev pub without_prefix : List ℕ → List ℕ
without_prefix text = drop (prefix_len is_ascii_whitespace text) text

-- and without that which it ends with
abbrev pub without_white_space : List ℕ → List ℕ
without_white_space text = take (length (without_prefix text) - suffix_len is_ascii_whitespace (without_prefix text))
    (without_prefix text)

-- the text in a line: what stands before the first #, without white space around it
abbrev pub text_in : List ℕ → List ℕ
text_in line = without_white_space (before_first (λ b. b == 35) line)

abbrev pub is_blank : ℕ → Bool
is_blank b = b == space || b == tab

-- how many bytes stand before the first blank
abbrev pub word_len : List ℕ → ℕ
word_len text = position_or_len is_blank text

abbrev pub without_blanks : List ℕ → List ℕ
without_blanks text = drop (prefix_len is_blank text) text

-- a mailbox: its name, and its own quota
abbrev pub Listed : Type 0
Listed = List ℕ × BoxQuota

-- What a text lists whose first blanks have that quota after them: what stands before these is the name. Where no
-- quota is there the name is the whole text, which with a blank in it no mailbox can have.
abbrev pub listed_by : List ℕ → Option BoxQuota → Listed
listed_by text None = (text, Asked)
listed_by text (Some quota) = (take (word_len text) text, quota)

abbrev pub listed_in : List ℕ → Listed
listed_in text = listed_by text (quota_of_word (without_blanks (drop (word_len text) text)))

-- the name that a line lists, and the quota
unfoldable pub name_in : List ℕ → List ℕ
name_in line = (listed_in (text_in line)).0

unfoldable pub quota_in : List ℕ → BoxQuota
quota_in line = (listed_in (text_in line)).1

abbrev pub is_named : List ℕ → Bool
is_named name = not (length name == 0)

-- the lines of a text: LF parts them
abbrev pub lines_of : List ℕ → List (List ℕ)
lines_of text = slice_split (λ b. b == lf) text

-- the names that lines have, in their order; an empty one is none
abbrev pub names_in : List (List ℕ) → List (List ℕ)
names_in lines = filter is_named (map name_in lines)

-- their quotas, in the same order
abbrev pub quotas_in : List (List ℕ) → List BoxQuota
quotas_in lines = map quota_in (filter (λ line. is_named (name_in line)) lines)

-- the mailboxes that a text lists
abbrev pub listed_boxes : List ℕ → List (List ℕ)
listed_boxes text = names_in (lines_of text)

-- and the own quota of each
abbrev pub listed_quotas : List ℕ → List BoxQuota
listed_quotas text = quotas_in (lines_of text)

-- The name of that number, counted from 0, stands on this line, counted from 1: as many names stand on the lines before
-- it. Each line counts, be it empty or a comment.
pub record IsLineOfName (text : List ℕ) (number line : ℕ) : Type 0 where
  pub above : ℕ
  pub counted : line ≡ above + 1
  pub within : above < length (lines_of text)
  pub named : is_named (name_in (get_or (lines_of text) above [])) ≡ true
  pub names_above : length (names_in (take above (lines_of text))) ≡ number
