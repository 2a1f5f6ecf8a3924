-- The date of a second is the date of the calendar.
use Rattle.std.proofs.Common.{◌≡◌, ℕ, zero, suc, ◌+◌, ◌-◌, ◌*◌, ◌/◌, ◌%◌, ◌<◌, ◌≤◌, nat_lt, Bool, true, false, if◌then◌else◌, refl, sym, ◌∙◌, arith}
use Rattle.std.proofs.lemmas.Bool.Decides.{nat_tests}
use Rattle.httpdate.specs.Calendar.{days_in_year, days_in_month, days_of_years, days_of_months, days_from_civil}
use Rattle.httpdate.specs.Valid.{parts_secs, IsValid}
use Rattle.httpdate.specs.Date.{unix_secs}
use Rattle.httpdate.specs.declared.date.HttpDate.{HttpDate}
use Rattle.httpdate.proofs.Theorems.{unix_secs_injective}
use Rattle.httpdate.proofs.CalendarLemmas.{days_of_years_closed, days_of_months_all}
use Rattle.http_reply.specs.Dates.{year_of, month_of, date_of}

-- the days of the years before y, and days more, are so many, and these fall into the year y
pub record IsDayOfYear (total y days : ℕ) : Type 0 where
  pub from : 1970 ≤ y
  pub before : days_of_years (y - 1970) + days ≡ total
  pub within : days < days_in_year y

step-years : (y days : ℕ) → 1970 ≤ y → days_in_year y ≤ days → days_of_years (y + 1 - 1970) + (days - days_in_year y) ≡ days_of_years (y - 1970) + days
unfolding days_of_years
step-years y days h k =
    let next : y + 1 - 1970 ≡ suc (y - 1970) = omega arith in
    let same : 1970 + (y - 1970) ≡ y = omega arith in
    rw (next, same) (omega arith)

some-days : (y : ℕ) → 0 < days_in_year y
some-days y = grind arith

year-of : (n y days total : ℕ) → days ≤ n → 1970 ≤ y → days_of_years (y - 1970) + days ≡ total → IsDayOfYear total (year_of n y days).0 (year_of n y days).1
unfolding year_of
year-of zero y days total few h e = record { from = h; before = e; within = omega (arith, some-days y) }
year-of (suc n) y days total few h e =
    test (nat_lt days (days_in_year y)) refl
    (λ past. year-of n (y + 1) (days - days_in_year y) total (omega (arith, some-days y)) (omega arith) (omega (arith, step-years y days h past)))
  where
    test : (b : Bool) → nat_lt days (days_in_year y) ≡ b
        → (days_in_year y ≤ days → IsDayOfYear total (year_of n (y + 1) (days - days_in_year y)).0 (year_of n (y + 1) (days - days_in_year y)).1)
        → IsDayOfYear total (if b then (y, days) else year_of n (y + 1) (days - days_in_year y)).0 (if b then (y, days) else year_of n (y + 1) (days - days_in_year y)).1
    test true t more = record { from = h; before = e; within = grind (arith, nat_tests) }
    test false t more = more (grind (arith, nat_tests))

-- the days of a year before the month m, and days more, are so many, and these fall into the month m
pub record IsDayOfMonth (y total m days : ℕ) : Type 0 where
  pub from : 1 ≤ m
  pub upto : m ≤ 12
  pub before : days_of_months y (m - 1) + days ≡ total
  pub within : days < days_in_month y m

step-months : (y m days : ℕ) → 1 ≤ m → days_in_month y m ≤ days → days_of_months y (m + 1 - 1) + (days - days_in_month y m) ≡ days_of_months y (m - 1) + days
unfolding days_of_months
step-months y m days h k =
    let next : m + 1 - 1 ≡ suc (m - 1) = omega arith in
    let same : suc (m - 1) ≡ m = omega arith in
    rw (next, same) (omega arith)

month-of : (n y m days total : ℕ) → m + n ≡ 13 → 1 ≤ m → days_of_months y (m - 1) + days ≡ total → total < days_in_year y → IsDayOfMonth y total (month_of n y m days).0 (month_of n y m days).1
unfolding month_of
month-of zero y m days total few h e below =
    let last : m - 1 ≡ 12 = omega arith in
    let all : days_of_months y (m - 1) ≡ days_in_year y = rw last (days_of_months_all y) in
    absurd (omega (arith, all))
month-of (suc n) y m days total few h e below =
    test (nat_lt days (days_in_month y m)) refl
    (λ past. month-of n y (m + 1) (days - days_in_month y m) total (omega arith) (omega arith) (omega (arith, step-months y m days h past)) below)
  where
    test : (b : Bool) → nat_lt days (days_in_month y m) ≡ b
        → (days_in_month y m ≤ days → IsDayOfMonth y total (month_of n y (m + 1) (days - days_in_month y m)).0 (month_of n y (m + 1) (days - days_in_month y m)).1)
        → IsDayOfMonth y total (if b then (m, days) else month_of n y (m + 1) (days - days_in_month y m)).0 (if b then (m, days) else month_of n y (m + 1) (days - days_in_month y m)).1
    test true t more = record { from = h; upto = omega arith; before = e; within = grind (arith, nat_tests) }
    test false t more = more (grind (arith, nat_tests))

years-grow : (n k : ℕ) → days_of_years n ≤ days_of_years (n + k)
unfolding days_of_years
years-grow n zero = let same : n + 0 ≡ n = omega arith in rw same (omega arith)
years-grow n (suc k) =
    let before = years-grow n k in
    let next : n + suc k ≡ suc (n + k) = omega arith in
    rw next (omega arith)

-- the days before the year 10000
below-10000 : (total y days : ℕ) → IsDayOfYear total y days → total < 2_932_897 → y ≤ 9999
below-10000 total y days h few = test (nat_lt y 10000) refl
  where
    test : (b : Bool) → nat_lt y 10000 ≡ b → y ≤ 9999
    test true t = grind (arith, nat_tests)
    test false t =
        let late : 10000 ≤ y = grind (arith, nat_tests) in
        let split : 8030 + (y - 10000) ≡ y - 1970 = omega arith in
        let grown = years-grow 8030 (y - 10000) in
        let closed = days_of_years_closed 8030 in
        absurd (omega (arith, rw split at grown, closed, h.before))

civil-days : (y m d : ℕ) (total in_year : ℕ) → IsDayOfYear total y in_year → IsDayOfMonth y in_year m d → days_from_civil y m (d + 1) ≡ total
civil-days y m d total in_year year month = omega (arith, year.before, month.before)

clock-is : (secs days : ℕ) → secs / 86_400 ≡ days → days * 86_400 + secs % 86_400 / 3_600 * 3_600 + secs % 86_400 % 3_600 / 60 * 60 + secs % 86_400 % 60 ≡ secs
clock-is secs days h = omega arith

year-at : (days : ℕ) → IsDayOfYear days (year_of days 1970 days).0 (year_of days 1970 days).1
unfolding days_of_years
year-at days = year-of days 1970 days days (omega arith) (omega arith) (omega arith)

month-at : (y days : ℕ) → days < days_in_year y → IsDayOfMonth y days (month_of 12 y 1 days).0 (month_of 12 y 1 days).1
unfolding days_of_months
month-at y days h = month-of 12 y 1 days days refl (omega arith) (omega arith) h

pub date-is : (secs : ℕ) → secs < 253_402_300_800 → IsValid (date_of secs) × (parts_secs (date_of secs) ≡ secs)
unfolding date_of
date-is secs h =
    let year = year-at (secs / 86_400) in
    let month = month-at (year_of (secs / 86_400) 1970 (secs / 86_400)).0 (year_of (secs / 86_400) 1970 (secs / 86_400)).1 year.within in
    let civil = civil-days _ _ _ (secs / 86_400) _ year month in
    let late = below-10000 (secs / 86_400) _ _ year (omega arith) in (
      (((year.from, late), (month.from, month.upto), (omega arith, omega (arith, month.within))), (omega arith, omega arith, omega arith), rw civil refl),
      rw civil (clock-is secs (secs / 86_400) refl),
    )

-- a second has one date
pub date-unique : (d : HttpDate) (secs : ℕ) → unix_secs d ≡ secs → secs < 253_402_300_800 → d.parts ≡ date_of secs
date-unique d secs e h =
    let is = date-is secs h in
    unix_secs_injective d (record { parts = date_of secs; civil = is.0.0; time = is.0.1; right_day = is.0.2 }) (e ∙ sym is.1)
