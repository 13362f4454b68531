-- The date that lies n days after 1 January 1970 is the one whose day number is n.
use Rattle.std.proofs.Common.{◌≡◌, ℕ, zero, suc, ◌+◌, ◌<◌, ◌≤◌, sym, ◌∙◌, arith, pos, ◌≤ℤ◌, nat_lt}
use Rattle.std.specs.Int.{IsInRange}
use Rattle.std.proofs.lemmas.Int.{by_lt_z}
use Rattle.std.proofs.lemmas.Bool.{cond_both, ltb-true, ltb-false}
use Rattle.jiff_core.specs.declared.civil.date.Date.{Date as Plain}
use Rattle.jiff_core.specs.Calendar.{days_in_month, days_from_civil}
use Rattle.jiff_core.specs.Date.{epoch_day}
use Rattle.jiff_core.proofs.SignedLemmas.{signed_arith}
use Rattle.jiff_core.proofs.CalendarLemmas.{days_from_civil-day_count, days_in_month_bounds, day_count-epoch, day_count-lt_year}
use Rattle.jiff_core.proofs.DateLemmas.{civil, epoch_day_injective, days_from_civil-day, days_from_civil-next_month, days_from_civil-next_year}
use Rattle.mail_writing.specs.Calendar.{Date, next_date, date_after}

-- the calendar has this day, and its number is n
pub record IsDay (n : ℕ) (d : Date) : Type 0 where
  pub from : 1970 ≤ d.year
  pub month_in : IsInRange 1 12 d.month
  pub day_in : IsInRange 1 (days_in_month (pos d.year) d.month) d.day
  pub number : days_from_civil (pos d.year) d.month d.day ≡ pos n

first : IsDay 0 (record { year = 1970; month = 1; day = 1 })
first = record {
  from = omega arith;
  month_in = omega arith;
  day_in = omega arith;
  number = omega (arith, signed_arith, days_from_civil-day_count (pos 1970) 1 1, day_count-epoch);
}

in_month : (n : ℕ) (d : Date) → IsDay n d → d.day < days_in_month (pos d.year) d.month
    → IsDay (suc n) (record { year = d.year; month = d.month; day = d.day + 1 })
in_month n d h more = record {
  from = h.from;
  month_in = h.month_in;
  day_in = omega arith;
  number = let e = days_from_civil-day (pos d.year) d.month d.day (d.day + 1) (omega arith) (omega arith) in omega (arith, signed_arith);
}

in_year : (n : ℕ) (d : Date) → IsDay n d → days_in_month (pos d.year) d.month ≤ d.day → d.month < 12
    → IsDay (suc n) (record { year = d.year; month = d.month + 1; day = 1 })
in_year n d h last more = record {
  from = h.from;
  month_in = omega arith;
  day_in = let long = days_in_month_bounds (pos d.year) (d.month + 1) in omega arith;
  number = let e = days_from_civil-next_month (pos d.year) d.month d.day (omega arith) (omega arith) in omega (arith, signed_arith);
}

new_year : (n : ℕ) (d : Date) → IsDay n d → days_in_month (pos d.year) d.month ≤ d.day → 12 ≤ d.month
    → IsDay (suc n) (record { year = d.year + 1; month = 1; day = 1 })
new_year n d h last end = record {
  from = omega arith;
  month_in = omega arith;
  day_in = let long = days_in_month_bounds (pos (d.year + 1)) 1 in omega arith;
  number =
      let december : d.month ≡ 12 = omega arith in
      let last_31 : 31 ≤ d.day = rw december at last in
      let at_most_31 = days_in_month_bounds (pos d.year) d.month in
      let day : d.day ≡ 31 = omega arith in
      let e = days_from_civil-next_year (pos d.year) (pos (d.year + 1)) (omega (arith, signed_arith)) (omega (arith, signed_arith)) in
      let here = rw (december, day) at h.number in
      omega (arith, signed_arith);
}

next : (n : ℕ) (d : Date) → IsDay n d → IsDay (suc n) (next_date d)
next n d h =
    cond_both (nat_lt d.day (days_in_month (pos d.year) d.month)) _ _ (IsDay (suc n))
    (λ e. in_month n d h (ltb-true _ _ e))
    (λ e. cond_both (nat_lt d.month 12) _ _ (IsDay (suc n))
    (λ f. in_year n d h (ltb-false _ _ e) (ltb-true _ _ f))
    (λ f. new_year n d h (ltb-false _ _ e) (ltb-false _ _ f)))

pub is_day : (n : ℕ) → IsDay n (date_after n)
unfolding date_after
is_day zero = first
is_day (suc n) = next n (date_after n) (is_day n)

-- a date of the library with that day number has no earlier year
no_later : (p : Plain) (n : ℕ) (d : Date) → IsDay n d → epoch_day p ≡ pos n → pos d.year ≤ℤ p.year
no_later p n d h e =
    by_lt_z p.year (pos d.year)
    (λ lt. absurd (omega (
      arith,
      signed_arith,
      days_from_civil-day_count p.year p.month p.day,
      days_from_civil-day_count (pos d.year) d.month d.day,
      day_count-lt_year p.year p.month p.day (pos d.year) d.month d.day (civil p) h.day_in.0 lt,
    )))
    (λ le. le)

as_plain : (d : Date) (n : ℕ) → IsDay n d → pos d.year ≤ℤ pos 9999 → Plain
as_plain d n h high = record {
  year = pos d.year;
  month = d.month;
  day = d.day;
  year_in = omega (arith, signed_arith);
  month_in = h.month_in;
  day_in = h.day_in;
}

same_date : (p : Plain) (n : ℕ) (d : Date) → IsDay n d → epoch_day p ≡ pos n → (p.year ≡ pos d.year) × (p.month ≡ d.month) × (p.day ≡ d.day)
unfolding as_plain
same_date p n d h e =
    let low = no_later p n d h e in
    let bound = p.year_in in
    let high : pos d.year ≤ℤ pos 9999 = omega (arith, signed_arith) in
    epoch_day_injective p (as_plain d n h high) (e ∙ sym h.number)

-- the library's date with that day number is the one that many days after 1 January 1970
pub date_is : (p : Plain) (n : ℕ) → epoch_day p ≡ pos n → (p.year ≡ pos (date_after n).year) × (p.month ≡ (date_after n).month) × (p.day ≡ (date_after n).day)
date_is p n e = same_date p n (date_after n) (is_day n) e
