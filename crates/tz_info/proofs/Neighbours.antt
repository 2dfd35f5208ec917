-- Only a year's own moments and those of its two neighbours can enclose a second of the year.
use Rattle.std.proofs.lemmas.Bool.Decides.{Decides-like}
use Rattle.tz_info.proofs.{
  RuleDays.day_within,
  Words.{Alternate, Bool, DayTime, Decides, Decides-or, IsAlternateRule, IsDstAt, IsInSomeYear, IsRuleDay, IsRuleYear, IsWithinDay, IsWithinWeek, IsYearOf, SFits, arith, by_lt_z},
  Words.{cond, days_at_least, end_in, floors, int_le, is_between, is_in_three, linear, moment, neg_ℤ, new_year, not, pos, start_in, starts_rise, year_start},
  Words.{w32, year_step, ℤ, ◌*ℤ◌, ◌+ℤ◌, ◌-ℤ◌, ◌<ℤ◌, ◌≡◌, ◌≤ℤ◌, ◌⊎◌},
}

-- the moments of each year keep that margin from its ends
pub record KeepsMargin (moments : ℤ → ℤ) (margin : ℤ) : Type 0 where
  pub low : (year : ℤ) → (new_year year +ℤ margin) ≤ℤ moments year
  pub high : (year : ℤ) → moments year ≤ℤ (pos 86_400 *ℤ (year_start year +ℤ pos 365) -ℤ margin)

-- they lie at most eight days outside of it
abbrev pub IsNear : (ℤ → ℤ) → Type 0
IsNear moments = KeepsMargin moments (neg_ℤ (pos 691_200))

pub near_years : (t : DayTime) (offset : ℤ) → IsRuleDay t.day → IsWithinWeek t.time → IsWithinDay offset → IsNear (moment t offset)
unfolding moment
near_years t _ fits week day = record {
  low = λ year. let within = day_within _ year fits in omega (arith, floors);
  high = λ year. let within = day_within _ year fits in omega (arith, floors);
}

pub starts_near : (a : Alternate) → IsAlternateRule a → IsNear (start_in a)
starts_near a h = grind (linear, near_years)

pub ends_near : (a : Alternate) → IsAlternateRule a → IsNear (end_in a)
ends_near a h = grind (linear, near_years)

-- a later year begins at least 365 days later
pub year_after : (a b : ℤ) → a <ℤ b → (year_start a +ℤ pos 365) ≤ℤ year_start b
year_after a b h =
    let step = year_step a in let least = days_at_least a in
    let rise = starts_rise (a +ℤ pos 1) b (omega (arith, floors)) in
    omega (arith, floors)

-- a second of the year comes from the year's first day on, and before the next year
pub in_year : (u year : ℤ) → IsYearOf u year → (new_year year ≤ℤ u) × (u <ℤ new_year (year +ℤ pos 1))
in_year u _ h = (omega (arith, floors), omega (arith, floors))

pub not_earlier : (lasts : ℤ → ℤ) (u year other : ℤ) → IsNear lasts → IsYearOf u year → u <ℤ lasts other → (year -ℤ pos 1) ≤ℤ other
not_earlier _ u year other near of_second before = by_lt_z other (year -ℤ pos 1)
    (λ less.
    let step = year_after other (other +ℤ pos 1) (omega linear) in let far = year_after (other +ℤ pos 1) year (omega linear) in
    let high = near.high other in omega (arith, floors))
    (λ h. h)

pub not_later : (firsts : ℤ → ℤ) (u year other : ℤ) → IsNear firsts → IsYearOf u year → firsts other ≤ℤ u → other ≤ℤ (year +ℤ pos 1)
not_later firsts u year other near of_second from = by_lt_z (year +ℤ pos 1) other
    (λ more. let far = year_after _ _ more in let low = near.low other in grind (linear, floors)) (λ h. h)

-- moments that enclose a second are those of one of three years
pub place : (year other : ℤ) → (year -ℤ pos 1) ≤ℤ other → other ≤ℤ (year +ℤ pos 1) → (other ≡ year -ℤ pos 1) ⊎ ((other ≡ year) ⊎ (other ≡ year +ℤ pos 1))
place _ _ low high = grind arith

between : (first last u : ℤ) → Decides (is_between first last u) ((first ≤ℤ u) × (u <ℤ last))
between _ _ u = (λ h. grind arith, λ h. grind arith)

by_three : (firsts lasts : ℤ → ℤ) (year u : ℤ) → IsNear firsts → IsNear lasts → IsYearOf u year
    → Decides (is_in_three firsts lasts year u) (IsInSomeYear firsts lasts u)
by_three firsts lasts year u near_first near_last of_second = Decides-like _
    (λ h. grind arith)
    (λ some.
    let (other, from, before) = some in
    let one = place year other (not_earlier _ u _ _ near_last of_second before) (not_later firsts u _ _ near_first of_second from) in grind arith)
    (Decides-or _ _ (Decides-or _ _ (between _ _ u) (between _ _ u)) (between _ _ u))

-- the second lies no further outside the year than its neighbours' moments lie inside theirs
abbrev pub IsBeside : ℤ → ℤ → ℤ → Type 0
IsBeside margin year u =
    ((new_year year -ℤ margin) ≤ℤ u) × (u <ℤ (pos 86_400 *ℤ (year_start year +ℤ pos 365) +ℤ margin))

-- there only the year's own moments can enclose it
own_year : (firsts lasts : ℤ → ℤ) (margin year u other : ℤ) → KeepsMargin firsts margin → KeepsMargin lasts margin → IsBeside margin year u → firsts other ≤ℤ u
    → u <ℤ lasts other → other ≡ year
own_year _ _ _ year u other first last beside from before =
    by_lt_z other year
    (λ less. let after = year_after _ _ less in let high = last.high other in omega (arith, floors))
    (λ not_less. by_lt_z year other
    (λ more. let after = year_after _ _ more in let low = first.low other in omega (arith, floors))
    (λ not_more. omega (arith, floors)))

pub by_own : (firsts lasts : ℤ → ℤ) (margin year u : ℤ) → KeepsMargin firsts margin → KeepsMargin lasts margin → IsBeside margin year u
    → Decides (is_between (firsts year) (lasts year) u) (IsInSomeYear firsts lasts u)
by_own firsts lasts margin year u first last beside =
    (λ h. grind arith, λ some. let (other, from, before) = some in let same = own_year _ _ _ _ u _ first last beside from before in grind arith)

-- such tests decide, where moments come in their order in the second's own year
pub decides_dst : (starts ends : ℤ → ℤ) (year own u : ℤ) (dst first last : Bool) → int_le (starts own) (ends own) ≡ int_le (starts year) (ends year)
    → dst ≡ cond (int_le (starts year) (ends year)) first (not last)
    → Decides first (IsInSomeYear starts ends u) → Decides last (IsInSomeYear ends starts u) → IsDstAt starts ends own u dst
decides_dst _ _ _ own u dst _ _ same is on off = grind arith

-- the moments of three years decide everywhere
pub dst_by_three : (starts ends : ℤ → ℤ) (year u : ℤ) (dst : Bool) → IsNear starts → IsNear ends → IsYearOf u year
    → dst ≡ cond (int_le (starts year) (ends year)) (is_in_three starts ends year u) (not (is_in_three ends starts year u)) → IsDstAt starts ends year u dst
dst_by_three starts ends year u dst near_start near_end of_second is =
    grind (arith, decides_dst, by_three starts ends year u near_start near_end of_second, by_three ends starts year u near_end near_start of_second)

-- a year that a rule answers in and the years near it fit 32 bits
pub near_fit : (year : ℤ) → IsRuleYear year → SFits w32 year × SFits w32 (year -ℤ pos 1) × SFits w32 (year +ℤ pos 1) × SFits w32 (year +ℤ pos 2)
near_fit year h = omega linear
