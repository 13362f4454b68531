-- The datetime of an instant in UTC shows what `civil_at` says.
use Rattle.std.proofs.Common.{◌≡◌, ℕ, ◌+◌, ◌*◌, ◌/◌, ◌%◌, arith, pos, unsigned_abs}
use Rattle.jiff_core.specs.declared.civil.datetime.DateTime.{DateTime}
use Rattle.jiff_core.specs.Date.{epoch_day, weekday_of}
use Rattle.jiff_core.specs.DateTime.{civil_nanos}
use Rattle.jiff_core.proofs.SignedLemmas.{signed_arith}
use Rattle.jiff_core.proofs.CalendarLemmas.{weekday_number-parts}
use Rattle.jiff_core.proofs.DateTimeLemmas.{civil_nanos-parts, time_nanos_bound}
use Rattle.mail_world.specs.Stamps.{Civil}
use Rattle.mail_writing.specs.Calendar.{date_after, civil_at}
use Rattle.mail_writing.proofs.CalendarDates.{date_is}

-- what the datetime shows, with its weekday from 0 for Monday
abbrev pub shown : DateTime → Civil
shown p = record {
  year = unsigned_abs p.date.year;
  month = p.date.month;
  day = p.date.day;
  hour = p.time.hour;
  minute = p.time.minute;
  second = p.time.second;
  weekday = weekday_of p.date;
}

-- the date is the whole days
day_is : (p : DateTime) (t : ℕ) → civil_nanos p ≡ pos (t * 1_000_000_000) → epoch_day p.date ≡ pos (t / 86_400)
day_is p t e = omega (arith, signed_arith, civil_nanos-parts p, time_nanos_bound p.time)

-- and the time what they leave
time_is : (p : DateTime) (t : ℕ) → civil_nanos p ≡ pos (t * 1_000_000_000)
    → (p.time.hour ≡ t % 86_400 / 3_600) × (p.time.minute ≡ t % 3_600 / 60) × (p.time.second ≡ t % 60)
time_is p t e = let day = day_is p t e in omega (arith, signed_arith, civil_nanos-parts p)

weekday_is : (p : DateTime) (t : ℕ) → civil_nanos p ≡ pos (t * 1_000_000_000) → weekday_of p.date ≡ (t / 86_400 + 3) % 7
weekday_is p t e = let day = day_is p t e in rw day (omega (arith, signed_arith, weekday_number-parts (pos (t / 86_400))))

-- years count from 0 on
pub year_is : (p : DateTime) (t : ℕ) → civil_nanos p ≡ pos (t * 1_000_000_000) → p.date.year ≡ pos (date_after (t / 86_400)).year
year_is p t e = (date_is p.date (t / 86_400) (day_is p t e)).0

pub shown_is : (p : DateTime) (t : ℕ) → civil_nanos p ≡ pos (t * 1_000_000_000) → shown p ≡ civil_at t
unfolding civil_at
shown_is p t e =
    let date = date_is p.date (t / 86_400) (day_is p t e) in
    let time = time_is p t e in
    let weekday = weekday_is p t e in
    rw (weekday, date.0, date.1, date.2, time.0, time.1, time.2)
