-- From lines that break off, filled up so that each ends with a date, which many readers ask for (RFC 4155, Appendix A:
-- that of ctime).
use Rattle.std.specs.Prelude.{ℕ, ◌==◌, ◌&&◌, nat_le, Bool, List, [], ◌∷◌, ◌++◌, length, drop, codes, if◌then◌else◌}
use Rattle.std.specs.Prelude.{Option, Some, None, option_map}
use Rattle.std.specs.Str.{byte}
use Rattle.mail_world.specs.Text.{space}

-- what is filled in where nothing else is known: 24 bytes
abbrev pub date : List ℕ
date = codes "Thu Jan  1 00:00:00 1970"

-- what is missing after `From `
abbrev pub missing_first : List ℕ
missing_first = codes "MAILER-DAEMON " ++ date

-- the rest of a day's name after another first letter than that of `Thu`
abbrev pub day_rest : ℕ → Option (List ℕ)
day_rest b =
    if b == byte "M" then Some (codes "on")
    else if b == byte "W" then Some (codes "ed")
    else if b == byte "F" then Some (codes "ri")
    else if b == byte "S" then Some (codes "at")
    else None

-- the rest of a month's name after another first letter than that of `Jan`
abbrev pub month_rest : ℕ → Option (List ℕ)
month_rest b =
    if b == byte "F" then Some (codes "eb")
    else if b == byte "M" then Some (codes "ar")
    else if b == byte "A" then Some (codes "pr")
    else if b == byte "S" then Some (codes "ep")
    else if b == byte "O" then Some (codes "ct")
    else if b == byte "N" then Some (codes "ov")
    else if b == byte "D" then Some (codes "ec")
    else None

-- the rest of a name after another second letter than the one that is missing, by which of two that is
abbrev pub in_place_of : ℕ → ℕ → List ℕ → ℕ → List ℕ → ℕ → ℕ → Option (List ℕ)
in_place_of came first then_first second then_second missing b =
    if (b == came) && (missing == first) then Some then_first
    else if (b == came) && (missing == second) then Some then_second
    else None

abbrev pub is_digit : ℕ → Bool
is_digit b = nat_le 48 b && nat_le b 57

-- What is missing where the date goes on with another name or number than that of which `count` bytes are missing, m
-- and then these: `Mon`, `Wed`, `Fri`, `Sat`; `Tue`, `Sun`; `Feb`, `Mar`, `Apr`, `Sep`, `Oct`, `Nov`, `Dec`; `Jun`,
-- `Aug`; `Jul`; `May`; a day from 10 on; another digit.
abbrev pub goes_on : ℕ → ℕ → List ℕ → ℕ → Option (List ℕ)
goes_on count m missing b =
    if count == 24 then option_map (λ l. l ++ drop 3 date) (day_rest b)
    else if count == 23 then
    option_map (λ l. l ++ drop 3 date) (in_place_of (byte "u") (byte "h") (codes "e") (byte "a") (codes "n") m b)
    else if count == 20 then option_map (λ l. l ++ drop 7 date) (month_rest b)
    else if count == 19 then
    option_map (λ l. l ++ drop 7 date) (in_place_of (byte "u") (byte "a") (codes "n") (byte "p") (codes "g") m b)
    else if (count == 18) && (m == byte "n") && (b == byte "l") then Some (drop 7 date)
    else if (count == 18) && (m == byte "r") && (b == byte "y") then Some (drop 7 date)
    else if (count == 16) && nat_le 49 b && nat_le b 51 then Some (codes "0" ++ drop 10 date)
    else if nat_le count 15 && is_digit m && is_digit b then Some missing
    else None

-- else the byte is one of the address's, after which the date comes
abbrev pub or_date : Option (List ℕ) → ℕ → List ℕ
or_date (Some missing) b = missing
or_date None b = if b == space then date else space ∷ date

-- what is missing after another byte than the next of what was missing
abbrev pub missing_else : List ℕ → ℕ → List ℕ
missing_else [] b = or_date None b
missing_else (m ∷ missing) b = or_date (goes_on (length (m ∷ missing)) m missing b) b

-- what is missing after one byte more
abbrev pub missing_after : List ℕ → ℕ → List ℕ
missing_after [] b = missing_else [] b
missing_after (m ∷ missing) b = if b == m then missing else missing_else (m ∷ missing) b
