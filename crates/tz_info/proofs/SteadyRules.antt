-- Rules that never change the clocks: their types are one, or the two moments of each year, or one season lasts until it begins again.
use Rattle.std.specs.Prelude.{int_le, ◌&&◌, ◌/◌, ◌||◌}
use Rattle.tz_info.proofs.{
  KindLaws.{kind_found, kind_parts},
  Neighbours.{IsNear, ends_near, in_year, starts_near, year_after},
  Prefixes.one_true,
  RuleDays.day_rises,
  Words.{Alternate, AlternateAt, Bool, DayTime, IsAlternateRule, IsInSomeYear, IsRuleDay, IsYearOf, List, LocalType, NeverChanges, all_below, ap, arith, by_lt_z},
  Words.{cond, end_in, false, floors, get_or, is_leap, kind_place, linear, moment, pos, refl, seconds_by_kind, start_in, sym, true, weekday_below, weekday_later, weekday_of, year_start, year_step},
  Words.{ℕ, ℤ, ⊎_elim, ◌%◌, ◌*ℤ◌, ◌+ℤ◌, ◌+◌, ◌-ℤ◌, ◌<ℤ◌, ◌<◌, ◌∙◌, ◌≡◌, ◌≤ℤ◌, ◌⊎◌},
}
use Rattle.tz_info.specs.Steps.Kinds.{ends_of, is_one_moment, are_steady, next_weekday, runs_on, starts_of, year_seconds}

pub steady_alike : (a : Alternate) → a.std ≡ a.dst → NeverChanges a
steady_alike a same u v s t h k = grind linear

-- ---- moments of one year and of the next
-- the last one comes at or after the first one of the next year
abbrev RunsOn : (ℤ → ℤ) → (ℤ → ℤ) → Type 0
RunsOn firsts lasts = (year next : ℤ) → next ≡ year +ℤ pos 1 → firsts next ≤ℤ lasts year

-- then the moments of some year enclose each second
always : (firsts lasts : ℤ → ℤ) (year u : ℤ) → IsNear firsts → RunsOn firsts lasts → IsYearOf u year → IsInSomeYear firsts lasts u
always firsts lasts year u near on of_second =
    let (low, high) = in_year u year of_second in
    let before = year_after (year -ℤ pos 2) (year -ℤ pos 1) (omega linear) in let last = year_after (year -ℤ pos 1) year (omega linear) in
    let next = year_after (year +ℤ pos 1) (year +ℤ pos 2) (omega linear) in
    let far = near.high (year -ℤ pos 2) in let near_end = near.low (year +ℤ pos 2) in
    by_lt_z u (firsts (year -ℤ pos 1)) (λ l. let r = on (year -ℤ pos 2) (year -ℤ pos 1) (omega linear) in (year -ℤ pos 2, omega linear, omega linear))
    (λ m. by_lt_z u (firsts year) (λ l. let r = on (year -ℤ pos 1) year (omega linear) in (year -ℤ pos 1, m, omega linear))
    (λ m. by_lt_z u (firsts (year +ℤ pos 1)) (λ l. let r = on year (year +ℤ pos 1) (omega linear) in (year, m, omega linear))
    (λ m. let r = on (year +ℤ pos 1) (year +ℤ pos 2) (omega linear) in (year +ℤ pos 1, m, omega linear))))

-- each year's moment comes later
grows : (t : DayTime) (offset year next : ℤ) → IsRuleDay t.day → next ≡ year +ℤ pos 1 → moment t offset year <ℤ moment t offset next
unfolding moment
grows t offset year next fits e = let r = day_rises _ year next fits (omega linear) in omega (arith, floors)

either : (a b : Bool) → (a || b) ≡ true → (a ≡ true) ⊎ (b ≡ true)
either a b h = grind arith

-- ---- a rule
module _ (a : Alternate) (rule : IsAlternateRule a) where
  all_daylight : RunsOn (start_in a) (end_in a) → (u : ℤ) (t : LocalType) → AlternateAt a u t → t ≡ a.dst
  all_daylight on u t h =
      let some = always (start_in a) (end_in a) h.year u (starts_near a rule) on h.of_second in
      let later = grows a.start a.std.offset h.year (h.year +ℤ pos 1) rule.start_day (omega linear) in
      let r = on h.year (h.year +ℤ pos 1) (omega linear) in
      let is = (h.when.start_first (omega linear)).1 some in grind linear

  all_standard : RunsOn (end_in a) (start_in a) → (u : ℤ) (t : LocalType) → AlternateAt a u t → t ≡ a.std
  all_standard on u t h =
      let some = always (end_in a) (start_in a) h.year u (ends_near a rule) on h.of_second in
      let later = grows a.end a.dst.offset h.year (h.year +ℤ pos 1) rule.end_day (omega linear) in
      let r = on h.year (h.year +ℤ pos 1) (omega linear) in
      let is = (h.when.end_first (omega linear)).1 some in grind linear

  one_moment : ((year : ℤ) → start_in a year ≡ end_in a year) → (u : ℤ) (t : LocalType) → AlternateAt a u t → t ≡ a.std
  one_moment one u t h =
      let same = one h.year in
      let is = h.when.start_first (omega linear) in
      let never : IsInSomeYear (start_in a) (end_in a) u → ⊥ = λ i. let e = one i.0 in omega linear in grind linear

-- ---- by the seconds of kinds of years
-- how many seconds a year of a kind has, and which weekday follows it
kind_year : (leap : Bool) (first : ℕ) → first < 7
    → (year_seconds (cond leap 7 0 + first) ≡ pos 86_400 *ℤ pos (cond leap 366 365)) × (next_weekday (cond leap 7 0 + first) ≡ (first + cond leap 366 365) % 7)
kind_year true first h = (let e : (7 + first) / 7 ≡ 1 = omega arith in rw e refl, omega arith)
kind_year false first h = (let e : (0 + first) / 7 ≡ 0 = omega arith in rw e refl, omega arith)

next_year : (year next : ℤ) → next ≡ year +ℤ pos 1
    → (pos 86_400 *ℤ year_start next ≡ pos 86_400 *ℤ year_start year +ℤ year_seconds (kind_place year))
    × (kind_place next ≡ cond (is_leap next) 7 0 + next_weekday (kind_place year))
next_year year next e =
    let (seconds, weekday) = kind_year (is_leap year) (weekday_of (year_start year)) (weekday_below (year_start year)) in
    let step = year_step year in
    let start : year_start next ≡ year_start year +ℤ pos (cond (is_leap year) 366 365) = rw e step in
    (rw (start, seconds) (omega linear), rw (start, weekday) (ap (λ n. cond (is_leap next) 7 0 + n) (weekday_later (year_start year) (cond (is_leap year) 366 365))))

-- the test of a kind, for a next year that is a leap year or not
runs_at : (firsts lasts : List ℤ) (kind : ℕ) (leap : Bool) → runs_on firsts lasts kind ≡ true
    → (year_seconds kind +ℤ get_or firsts (cond leap 7 0 + next_weekday kind) (pos 0)) ≤ℤ get_or lasts kind (pos 0)
runs_at firsts lasts kind true h = grind arith
runs_at firsts lasts kind false h = grind arith

below : (year : ℤ) → kind_place year < 14
below year = (kind_parts (is_leap year) _ (weekday_below (year_start year))).0

runs : (first last : DayTime) (one other : ℤ) → IsRuleDay first.day → IsRuleDay last.day
    → all_below 14 (runs_on (seconds_by_kind first one) (seconds_by_kind last other)) ≡ true → RunsOn (moment first one) (moment last other)
runs first last one other fits fits_last all year next e =
    let (seconds, kind) = next_year year next e in
    let h = runs_at _ _ (kind_place year) (is_leap next)
    (one_true 14 _ (runs_on (seconds_by_kind first one) (seconds_by_kind last other)) (below year) all) in
    let there = kind_found last other year (pos 0) fits_last in
    let here = rw kind at (kind_found first one next (pos 0) fits) in
    omega linear

equal : (x y : ℤ) → (int_le x y && int_le y x) ≡ true → x ≡ y
equal x y h = grind arith

-- a rule of which that is known
module _ (a : Alternate) (rule : IsAlternateRule a) where
  one_each : all_below 14 (is_one_moment (starts_of a) (ends_of a)) ≡ true → (year : ℤ) → start_in a year ≡ end_in a year
  one_each all year =
      let start = kind_found a.start a.std.offset year (pos 0) rule.start_day in
      let end = kind_found a.end a.dst.offset year (pos 0) rule.end_day in
      let h = one_true 14 _ (is_one_moment (starts_of a) (ends_of a)) (below year) all in
      let same = equal (get_or (starts_of a) (kind_place year) (pos 0)) (get_or (ends_of a) (kind_place year) (pos 0)) h in omega linear

  one_type : (t : LocalType) → ((u : ℤ) (s : LocalType) → AlternateAt a u s → s ≡ t) → NeverChanges a
  one_type t all u v s r h k = all u s h ∙ sym (all v r k)

  pub steady : are_steady (starts_of a) (ends_of a) ≡ true → NeverChanges a
  unfolding are_steady
  steady all = ⊎_elim (λ h. ⊎_elim (λ one. one_type _ (one_moment a rule (one_each one)))
      (λ on. one_type _ (all_daylight a rule (runs a.start a.end a.std.offset a.dst.offset rule.start_day rule.end_day on))) (either _ _ h))
      (λ on. one_type _ (all_standard a rule (runs a.end a.start a.dst.offset a.std.offset rule.end_day rule.start_day on))) (either _ _ all)
