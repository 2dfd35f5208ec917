-- A rule's moments, counted from the first second of their year, depend on the year's kind alone.
use Rattle.std.proofs.lemmas.List.FromFn.{get_or-map-range_with_len}
use Rattle.tz_info.proofs.{
  Neighbours.{IsNear, KeepsMargin, ends_near, starts_near},
  Prefixes.one_true,
  RuleDays.rule_day_closed,
  Words.{Alternate, Bool, DayForm, DayTime, IsAlternateRule, IsRuleDay, List, are_calm, arith, closed_day, cond, day_number, day_time_second, days_of_months},
  Words.{end_in, false, floors, get_or, get_or-map, inr, int_le, is_calm, is_calm_kind, is_leap, kind_place, margin_of, moment, nat_le, neg_ℤ, place_by},
  Words.{places_by_kind, pos, refl, second_in, seconds_by_kind, start_in, sym, true, weekday_below, weekday_later, weekday_of, year_start, ℕ, ℤ, ◌%◌, ◌*ℤ◌},
  Words.{◌+ℤ◌, ◌+◌, ◌-ℤ◌, ◌-◌, ◌<◌, ◌∙◌, ◌≡◌, ◌≤ℤ◌, ◌⊎◌},
}
use Rattle.tz_info.specs.Steps.Kinds.{ends_of, starts_of}

first_of_month : (year : ℤ) (month : ℕ) → day_number year month 1 ≡ year_start year +ℤ pos (days_of_months (is_leap year) (month - 1))
unfolding day_number
first_of_month year month = grind (arith, floors)

sum_on : (day start : ℤ) (n place : ℕ) → day ≡ start +ℤ pos n → day +ℤ pos place ≡ start +ℤ pos (n + place)
sum_on day _ n _ e = omega (arith, floors)

closed_day_by : (form : DayForm) (year : ℤ) → closed_day form year ≡ year_start year +ℤ pos (place_by form (is_leap year) (weekday_of (year_start year)))
unfolding closed_day place_by
closed_day_by form year = grind (arith, first_of_month, weekday_later, sum_on)

-- the second of each of the fourteen kinds
kind_at : (t : DayTime) (offset : ℤ) (kind : ℕ) (d : ℤ) → kind < 14
    → get_or (seconds_by_kind t offset) kind d ≡ day_time_second t offset (place_by t.day (nat_le 7 kind) (kind % 7))
unfolding seconds_by_kind places_by_kind
kind_at t offset kind d h =
    grind (arith, get_or-map, get_or-map-range_with_len (λ k. place_by t.day (nat_le 7 k) (k % 7)) 0 14 kind kind 0 h)

pub kind_parts : (leap : Bool) (first : ℕ) → first < 7
    → (cond leap 7 0 + first < 14) × (nat_le 7 (cond leap 7 0 + first) ≡ leap) × ((cond leap 7 0 + first) % 7 ≡ first)
kind_parts leap first h = grind arith

-- the second at the place of the year's kind is the year's
pub kind_found : (t : DayTime) (offset year d : ℤ) → IsRuleDay t.day → get_or (seconds_by_kind t offset) (kind_place year) d ≡ second_in t offset year
unfolding moment
kind_found t offset year d fits =
    let (below, leap, first) = kind_parts _ _ (weekday_below (year_start year)) in
    let day = rule_day_closed t.day year fits ∙ closed_day_by t.day year in
    kind_at t _ _ d below ∙ rw (leap, first) (omega (arith, floors))

-- the second at the place of the year's kind makes the year's moment, and lies near the year
abbrev pub IsKept : ℤ → ℤ → ℤ → Type 0
IsKept first second at =
    (pos 86_400 *ℤ first +ℤ second ≡ at) × (neg_ℤ (pos 691_200) ≤ℤ second) × (second ≤ℤ pos 32_227_200)

pub moment_by_kind : (t : DayTime) (offset year first d : ℤ) (seconds : List ℤ) (kind : ℕ) → IsRuleDay t.day → IsNear (moment t offset)
    → seconds ≡ seconds_by_kind t offset → kind ≡ kind_place year → first ≡ year_start year → IsKept first (get_or seconds kind d) (moment t offset year)
moment_by_kind t offset year first d seconds kind fits near e f g =
    let low = near.low year in let high = near.high year in
    rw (e, f, g, kind_found t offset year d fits) (omega (arith, floors), omega (arith, floors), omega (arith, floors))

-- ---- margins
-- how far the moments of a rule lie from the ends of their years; further outside than eight days they never lie
pub record IsMargin (a : Alternate) (margin : ℤ) : Type 0 where
  pub start : KeepsMargin (start_in a) margin
  pub end : KeepsMargin (end_in a) margin
  pub order : (margin ≡ neg_ℤ (pos 691_200)) ⊎ ((v w : ℤ) → int_le (start_in a v) (end_in a v) ≡ int_le (start_in a w) (end_in a w))
  pub bound : (neg_ℤ (pos 691_200) ≤ℤ margin) × (margin ≤ℤ pos 172_800)

record IsCalm (start_first : Bool) (start end : ℤ) : Type 0 where
  start_in : (pos 172_800 ≤ℤ start) × (start ≤ℤ pos 31_363_200)
  end_in : (pos 172_800 ≤ℤ end) × (end ≤ℤ pos 31_363_200)
  order : int_le start end ≡ start_first

calm_is : (start_first : Bool) (start end : ℤ) → is_calm start_first start end ≡ true → IsCalm start_first start end
calm_is b s e h = grind arith

-- if all kinds are calm, each year is
calm_year : (a : Alternate) (year : ℤ) → IsAlternateRule a → are_calm (starts_of a) (ends_of a) ≡ true
    → IsCalm (int_le (get_or (starts_of a) 0 (pos 0)) (get_or (ends_of a) 0 (pos 0))) (second_in a.start a.std.offset year) (second_in a.end a.dst.offset year)
unfolding are_calm
calm_year a year rule all =
    let kind = kind_place year in
    let calm = calm_is _ (get_or (starts_of a) kind (pos 0)) (get_or (ends_of a) kind (pos 0))
    (one_true 14 _ (is_calm_kind (starts_of a) (ends_of a)) (kind_parts (is_leap year) _ (weekday_below (year_start year))).0 all) in
    rw (kind_found a.start a.std.offset year (pos 0) rule.start_day, kind_found a.end a.dst.offset year (pos 0) rule.end_day) at calm

shifted : (x y base : ℤ) → int_le (x -ℤ base) (y -ℤ base) ≡ int_le x y
shifted x y base = grind arith

margin_by : (a : Alternate) (margin : ℤ) (calm : Bool) → IsAlternateRule a → are_calm (starts_of a) (ends_of a) ≡ calm
    → margin ≡ cond calm (pos 172_800) (neg_ℤ (pos 691_200)) → IsMargin a margin
margin_by a _ false rule all is = grind (arith, starts_near, ends_near)
margin_by a margin true rule all is =
    let calm = λ (year : ℤ). calm_year a year rule all in
    let ordered = λ (year : ℤ). sym (shifted (start_in a year) (end_in a year) (pos 86_400 *ℤ year_start year)) ∙ (calm year).order in
    rw is (record {
      start = record { low = λ year. let c = calm year in omega (arith, floors); high = λ year. let c = calm year in omega (arith, floors) };
      end = record { low = λ year. let c = calm year in omega (arith, floors); high = λ year. let c = calm year in omega (arith, floors) };
      order = inr (λ v w. ordered v ∙ sym (ordered w));
      bound = (omega (arith, floors), omega (arith, floors));
    })

pub margin_kept : (a : Alternate) (margin : ℤ) → IsAlternateRule a
    → margin ≡ margin_of (starts_of a) (ends_of a) → IsMargin a margin
unfolding margin_of
margin_kept a _ rule is = margin_by a _ _ rule refl is
