-- The quota that a mailbox has of its own, as it is written, and the one that counts.
use Rattle.std.specs.Prelude.{◌==◌, ◌*◌, ◌^◌, ℕ, List, [], ◌∷◌, Option, Some, None, take, drop, codes, nat_lt}
use Rattle.std.specs.Prelude.{if◌then◌else◌}
use Rattle.std.specs.Char.{is_ascii_digit}
use Rattle.std.specs.List.{prefix_len}
use Rattle.std.specs.Option.{option_and_then}
use Rattle.std.specs.Str.{byte, bytes_eq}
use Rattle.std.specs.Str.Parse.{digits_value}
use Rattle.lmtpd_words.specs.declared.quotas.BoxQuota.{BoxQuota}
use Rattle.lmtpd_words.specs.declared.quotas.BoxQuota.TheVariants.{Asked, Unlimited, Bytes}

-- how many bytes a letter counts
abbrev pub unit_by : ℕ → Option ℕ
unit_by letter =
    if letter == byte "K" then Some (2 ^ 10)
    else if letter == byte "M" then Some (2 ^ 20)
    else if letter == byte "G" then Some (2 ^ 30)
    else None

-- and how many what stands after a number counts, where that is nothing or a letter
abbrev pub unit_of : List ℕ → Option ℕ
unit_of [] = Some 1
unit_of (letter ∷ []) = unit_by letter
unit_of (letter ∷ other ∷ rest) = None

-- that many bytes, below 2^64
abbrev pub limit_of : ℕ → Option BoxQuota
limit_of bytes = if nat_lt bytes (2 ^ 64) then Some (Bytes bytes) else None

-- the number that digits write, of such units
abbrev pub counted : List ℕ → ℕ → Option BoxQuota
counted [] unit = None
counted (digit ∷ digits) unit = limit_of (digits_value 10 (digit ∷ digits) * unit)

-- how many digits a word begins with
abbrev pub digit_count : List ℕ → ℕ
digit_count word = prefix_len is_ascii_digit word

-- a number of bytes: digits, after them a letter or nothing
abbrev pub bytes_of_word : List ℕ → Option BoxQuota
bytes_of_word word = option_and_then (counted (take (digit_count word) word)) (unit_of (drop (digit_count word) word))

-- what a word says, where it is a quota: - alone is no limit
unfoldable pub quota_of_word : List ℕ → Option BoxQuota
quota_of_word word = if bytes_eq word (codes "-") then Some Unlimited else bytes_of_word word

-- the bytes that a mailbox may hold: by its own quota, and else what is asked of all
abbrev pub quota_for : Option ℕ → BoxQuota → Option ℕ
quota_for asked Asked = asked
quota_for asked Unlimited = None
quota_for asked (Bytes n) = Some n
