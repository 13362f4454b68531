-- Seconds since 1970 on the Gregorian calendar, in UTC.
use Rattle.std.specs.Prelude.{ℕ, zero, suc, ◌+◌, ◌/◌, ◌%◌, nat_lt, if◌then◌else◌, pos}
use Rattle.jiff.specs.Words.{days_in_month}
use Rattle.mail_world.specs.Stamps.{Civil}

-- a day of the calendar: the month from 1 for January, the day of the month from 1
pub record Date : Type 0 where
  pub year : ℕ
  pub month : ℕ
  pub day : ℕ

-- the day after: the next of the month, else the first of the next month, else the first of the next year
abbrev pub next_date : Date → Date
next_date d =
    if nat_lt d.day (days_in_month (pos d.year) d.month) then record { year = d.year; month = d.month; day = d.day + 1 }
    else (if nat_lt d.month 12 then record { year = d.year; month = d.month + 1; day = 1 }
    else record { year = d.year + 1; month = 1; day = 1 })

-- the day that lies that many days after 1 January 1970
unfoldable pub date_after : ℕ → Date
date_after zero = record { year = 1970; month = 1; day = 1 }
date_after (suc n) = next_date (date_after n)

-- the moment that many seconds after the start of 1970, a Thursday; each day has 86,400 seconds
unfoldable pub civil_at : ℕ → Civil
civil_at seconds =
    let days = seconds / 86_400 in
    let date = date_after days in
    record {
      year = date.year;
      month = date.month;
      day = date.day;
      hour = seconds % 86_400 / 3_600;
      minute = seconds % 3_600 / 60;
      second = seconds % 60;
      weekday = (days + 3) % 7;
    }
