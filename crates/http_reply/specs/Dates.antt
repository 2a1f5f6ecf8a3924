-- The date of a second since 1970, as a function: years are counted off from 1970, then months (RFC 9110, 5.6.7 and 6.6.1).
use Rattle.std.specs.Prelude.{ℕ, zero, suc, ◌+◌, ◌-◌, ◌/◌, ◌%◌, nat_lt, min, List, if◌then◌else◌}
use Rattle.httpdate.specs.declared.parts.Parts.{Parts}
use Rattle.httpdate.specs.Calendar.{days_in_year, days_in_month, weekday}
use Rattle.httpdate.specs.Text.{imf_fixdate}

-- the year of the day that comes so many days after the beginning of the year y, and its number in that year from 0; n years at most are counted off
unfoldable pub year_of : ℕ → ℕ → ℕ → ℕ × ℕ
year_of zero y days = (y, days)
year_of (suc n) y days = if nat_lt days (days_in_year y) then (y, days) else year_of n (y + 1) (days - days_in_year y)

-- likewise the month of the year y, from the month m on
unfoldable pub month_of : ℕ → ℕ → ℕ → ℕ → ℕ × ℕ
month_of zero y m days = (m, days)
month_of (suc n) y m days = if nat_lt days (days_in_month y m) then (m, days) else month_of n y (m + 1) (days - days_in_month y m)

-- the date and time of a second
unfoldable pub date_of : ℕ → Parts
date_of secs =
    let days = secs / 86_400 in
    let year = year_of days 1970 days in
    let month = month_of 12 year.0 1 year.1 in
    let clock = secs % 86_400 in
    record {
      year = year.0;
      mon = month.0;
      day = month.1 + 1;
      hour = clock / 3_600;
      min = clock % 3_600 / 60;
      sec = clock % 60;
      wday = weekday days;
    }

-- the date of a moment in milliseconds, as IMF-fixdate (RFC 9110, section 5.6.7); after the year 9999 it stands still
abbrev pub date_text : ℕ → List ℕ
date_text now = imf_fixdate (date_of (min (now / 1_000) 253_402_300_799))
