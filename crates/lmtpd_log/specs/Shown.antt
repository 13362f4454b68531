-- How a line of the log shows an address, a message's id and the name that a client gave itself.
use Rattle.std.specs.Prelude.{ℕ, ◌<◌, List, ◌++◌, codes}
use Rattle.percent_encoding.specs.Percent.{percent_encode}
use Rattle.lmtpd_log.specs.declared.naming.TheConstants.{ESCAPED}

-- printable, and no space
abbrev pub IsOfWord : ℕ → Type 0
IsOfWord b = (32 < b) × (b < 127)

-- as one word: with an escape for each byte that isn't printable, for a space, and for a percent sign
abbrev pub escaped : List ℕ → List ℕ
escaped text = percent_encode ESCAPED text

-- in angle brackets
abbrev pub shown_address : List ℕ → List ℕ
shown_address text = codes "<" ++ (escaped text ++ codes ">")
