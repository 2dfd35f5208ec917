-- Dates, times and local date-times are what they show.
use Rattle.naive_base.proofs.Words.{IsReading, IsTime, IsWideDay, IsWideYear, IsoWeek, NaiveDate, NaiveDateTime, NaiveTime, ap, day_of, fraction_of, iso_number}
use Rattle.naive_base.proofs.Words.{iso_year, props, reading, second_of, subst, ℕ, ℤ, ◌≡◌, ◌≤◌}

IsWideDay-once : (day : ℤ) → IsProp (IsWideDay day)
IsWideDay-once day = hlevel props

IsTime-once : (second f : ℕ) → IsProp (IsTime second f)
IsTime-once second f = hlevel props

IsReading-once : (s : ℤ) (f : ℕ) → IsProp (IsReading s f)
IsReading-once s f = hlevel props

pub same_date : (a b : NaiveDate) → day_of a ≡ day_of b → a ≡ b
same_date a b days =
    let SameAt : ℤ → Type 0 = λ day. (wide : IsWideDay day) → a ≡ record { day = day; in_range = wide } in
    let at_a : SameAt (day_of a) = λ wide. ap (λ w. record a { in_range = w }) (IsWideDay-once (day_of a) a.in_range wide) in
    subst SameAt days at_a b.in_range

pub same_time : (a b : NaiveTime) → second_of a ≡ second_of b → fraction_of a ≡ fraction_of b → a ≡ b
same_time a b seconds fractions =
    let SameAt : ℕ → ℕ → Type 0 = λ second f. (is_time : IsTime second f) → a ≡ record { secs = second; frac = f; in_range = is_time } in
    let at_a : SameAt (second_of a) (fraction_of a) =
    λ is_time. ap (λ t. record a { in_range = t }) (IsTime-once (second_of a) (fraction_of a) a.in_range is_time) in
    subst (λ (second : ℕ). SameAt second (fraction_of b)) seconds (subst (SameAt (second_of a)) fractions at_a) b.in_range

pub same_reading : (a b : NaiveDateTime) → (reading a).s ≡ (reading b).s → (reading a).f ≡ (reading b).f → a ≡ b
same_reading a b seconds fractions =
    let SameAt : ℤ → ℕ → Type 0 = λ s f. (is_reading : IsReading s f) → a ≡ record { secs = s; frac = f; in_range = is_reading } in
    let at_a : SameAt (reading a).s (reading a).f =
    λ is_reading. ap (λ r. record a { in_range = r }) (IsReading-once (reading a).s (reading a).f a.in_range is_reading) in
    subst (λ (s : ℤ). SameAt s (reading b).f) seconds (subst (SameAt (reading a).s) fractions at_a) b.in_range

InYear-once : (year : ℤ) (week : ℕ) → IsProp (IsWideYear year × (1 ≤ week) × (week ≤ 53))
InYear-once year week = hlevel props

pub same_week : (a b : IsoWeek) → iso_year a ≡ iso_year b → iso_number a ≡ iso_number b → a ≡ b
same_week a b years numbers =
    let SameAt : ℤ → ℕ → Type 0 = λ year week. (in_year : IsWideYear year × (1 ≤ week) × (week ≤ 53))
    → a ≡ record { year = year; week = week; in_year = in_year } in
    let at_a : SameAt (iso_year a) (iso_number a) = λ in_year. ap (λ w. record a { in_year = w }) (InYear-once (iso_year a) (iso_number a) a.in_year in_year) in
    subst (λ (year : ℤ). SameAt year (iso_number b)) years (subst (SameAt (iso_year a)) numbers at_a) b.in_year
