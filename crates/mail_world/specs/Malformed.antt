-- Messages that a site may refuse: programs that read mailboxes take a part of them for what it isn't, or for a letter of
-- its own.
use Rattle.std.specs.Prelude.{ℕ, ◌+◌, Bool, ◌||◌, ◌==◌, nat_lt, List, [], ◌∷◌, if◌then◌else◌}
use Rattle.std.specs.List.{list_any}
use Rattle.mail_world.specs.declared.limits.TheConstants.{COUNTED_LINE_LIMIT, LONE_CR_COUNT}
use Rattle.mail_world.specs.Text.{cr, space, tab, has_byte, begins, unix, lines}

-- no message has this byte (RFC 5322, 2.1)
abbrev pub nul : ℕ
nul = 0

-- what a line without its end counts: of the CRs only those are left that no LF follows
abbrev pub count_of : List ℕ → ℕ
count_of [] = 0
count_of (b ∷ line) = (if b == cr then LONE_CR_COUNT else 1) + count_of line

abbrev pub is_long : List ℕ → Bool
is_long line = nat_lt COUNTED_LINE_LIMIT (count_of line)

-- its first line goes on with one that stands before it (RFC 5322, 2.2.3), it has a NUL, or a line that is too long
-- (RFC 5322, 2.1.1, asks for 998 bytes at most)
unfoldable pub is_malformed : List ℕ → Bool
is_malformed message =
    (begins space message || begins tab message) || has_byte message nul || list_any is_long (lines (unix message))
