-- New York's clocks from November 2020 to the end of 2021: the type at each second, and which seconds show a local time.
use Rattle.std.{proofs.lemmas.Int.{fits_signed_from_abs}, specs.Prelude.{if◌then◌else◌}}
use Rattle.tz_info.proofs.{AnswerLaws.{same_answer}, KindLaws.{margin_kept}, RuleDays.{rule_day_closed}, SeasonLaws.{season_made}}
use Rattle.tz_info.proofs.Candidates.{asked_both, asked_found, asked_other, dst_or_std}
use Rattle.tz_info.proofs.ZoneLaws.{type_once}
use Rattle.tz_info.proofs.Words.{Bool, FitsSigned, IsAskedLast, IsWallAnswer, LocalType, RuleAt, Shows, TypeAt, TypeFrom, are_calm, arith, by_lt_z}
use Rattle.tz_info.proofs.Words.{closed_day, day_number, days_of_months, end_in, false, ints, is_dst_by_one, joined, least_time, margin_of, moment, neg_ℤ}
use Rattle.tz_info.proofs.Words.{not, place_by, places_by_kind, pos, refl, seconds_by_kind, start_in, sym, true, type_when, w64, year_start, ℤ, ◌*ℤ◌, ◌+ℤ◌}
use Rattle.tz_info.proofs.Words.{◌-ℤ◌, ◌<ℤ◌, ◌≡◌, ◌≤ℤ◌, ◌⊎◌}
use Rattle.tz_info.specs.{declared.rule.day.DayForm.TheVariants.{MonthWeekday}, Rules.{IsAlternateRule}}
use Rattle.offset_core.specs.{WallAnswer.{IsNeverShown, IsShownBetween, IsShownOnce}, declared.local_result.LocalResult.{LocalResult}}
use Rattle.offset_core.specs.declared.local_result.LocalResult.TheVariants.{Ambiguous, None, Single}
use Rattle.tests_pins.specs.NewYork.{edt, est, new_york, new_york_rule, new_york_zone}

rule : IsAlternateRule new_york
rule = omega arith

-- ---- the type at a second
-- in the year's moments, from two days before it to two days after it
by_year : (y first start end : ℤ) → first ≡ year_start y → start ≡ start_in new_york y → end ≡ end_in new_york y
    → (u : ℤ) → (pos 86_400 *ℤ first -ℤ pos 172_800) ≤ℤ u → u <ℤ (pos 86_400 *ℤ first +ℤ pos 31_536_000 +ℤ pos 172_800)
    → (neg_ℤ (pos 10_000_000_000) ≤ℤ u) → u ≤ℤ pos 10_000_000_000 → RuleAt new_york_rule u (type_when new_york (is_dst_by_one start end u))
unfolding margin_of are_calm seconds_by_kind places_by_kind place_by days_of_months
by_year y first start end of_year starts ends u low high near far =
    (season_made new_york (pos 172_800) y first
    (record {
      from = pos 86_400 *ℤ first -ℤ pos 172_800;
      until = pos 86_400 *ℤ first +ℤ pos 31_536_000 +ℤ pos 172_800;
      turns = record { start = start; end = end };
    })
    (margin_kept new_york (pos 172_800) rule refl) of_year refl refl starts ends).decided u (omega (arith, ints), omega (arith, ints)) (low, high)

-- the moments of both years
march : (y : ℤ) → start_in new_york y ≡ pos 86_400 *ℤ closed_day (MonthWeekday 3 2 0) y +ℤ pos 25_200
unfolding moment
march y = rw (rule_day_closed (MonthWeekday 3 2 0) y (omega arith)) refl

november : (y : ℤ) → end_in new_york y ≡ pos 86_400 *ℤ closed_day (MonthWeekday 11 1 0) y +ℤ pos 21_600
unfolding moment
november y = rw (rule_day_closed (MonthWeekday 11 1 0) y (omega arith)) refl

pub start_2021 : start_in new_york (pos 2021) ≡ pos 1_615_705_200
unfolding closed_day day_number year_start days_of_months
start_2021 = march (pos 2021)

pub end_2021 : end_in new_york (pos 2021) ≡ pos 1_636_264_800
unfolding closed_day day_number year_start days_of_months
end_2021 = november (pos 2021)

in_2020 : (u : ℤ) → pos 1_577_664_000 ≤ℤ u → u <ℤ pos 1_609_545_600
    → RuleAt new_york_rule u (type_when new_york (is_dst_by_one (pos 1_583_650_800) (pos 1_604_210_400) u))
unfolding closed_day day_number year_start days_of_months
in_2020 u low high =
    by_year (pos 2020) (pos 18_262) (pos 1_583_650_800) (pos 1_604_210_400) refl (sym (march (pos 2020))) (sym (november (pos 2020))) u low high
    (omega (arith, ints)) (omega (arith, ints))

-- between the moments of 2021 it is daylight saving time
abbrev pub is_summer : ℤ → Bool
is_summer u = is_dst_by_one (pos 1_615_705_200) (pos 1_636_264_800) u

in_2021 : (u : ℤ) → pos 1_609_286_400 ≤ℤ u → u <ℤ pos 1_641_168_000 → RuleAt new_york_rule u (type_when new_york (is_summer u))
unfolding year_start
in_2021 u low high =
    by_year (pos 2021) (pos 18_628) (pos 1_615_705_200) (pos 1_636_264_800) refl (sym start_2021) (sym end_2021) u low high
    (omega (arith, ints)) (omega (arith, ints))

pub rule_at : (u : ℤ) → pos 1_604_210_400 ≤ℤ u → u <ℤ pos 1_641_168_000 → RuleAt new_york_rule u (type_when new_york (is_summer u))
rule_at u low high = by_lt_z u (pos 1_609_286_400)
    (λ early. let same : is_summer u ≡ is_dst_by_one (pos 1_583_650_800) (pos 1_604_210_400) u = grind (arith, ints) in grind (arith, ints, in_2020))
    (λ late. in_2021 u late high)

pub ruleset rule_2021 = (start_2021, end_2021, rule_at)

pub edt_until_2020 : RuleAt new_york_rule (pos 1_604_210_399) edt
edt_until_2020 = in_2020 (pos 1_604_210_399) (omega arith) (omega arith)

pub type_of_rule : (u : ℤ) (t : LocalType) → RuleAt new_york_rule u t → TypeAt new_york_zone u t
type_of_rule u t r = grind (arith, ints)

pub type_at : (u : ℤ) → pos 1_604_210_400 ≤ℤ u → u <ℤ pos 1_641_168_000 → TypeAt new_york_zone u (type_when new_york (is_summer u))
type_at u low high = type_of_rule u (type_when new_york (is_summer u)) (rule_at u low high)

-- no other one is in force then
pub one_type : (u : ℤ) (t : LocalType) → pos 1_604_210_400 ≤ℤ u → u <ℤ pos 1_641_168_000 → TypeAt new_york_zone u t → t ≡ type_when new_york (is_summer u)
one_type u t low high h = type_once new_york_zone u t (type_when new_york (is_summer u)) h (type_at u low high)

-- ---- wall clocks
pub by_dst : (u l : ℤ) (t : LocalType) (dst : Bool) → t ≡ type_when new_york dst → u +ℤ t.offset ≡ l → (u ≡ l -ℤ edt.offset) ⊎ (u ≡ l -ℤ est.offset)
by_dst u l t dst is shown = grind (arith, ints)

-- the second at which it is shown, by the type in force then
pub second_of : (l u : ℤ) (t : LocalType) → pos 1_604_210_400 ≤ℤ u → u <ℤ pos 1_641_168_000
    → Shows (TypeAt new_york_zone) l u t → u ≡ l -ℤ (type_when new_york (is_summer u)).offset
second_of l u t low high s = let e = rw (one_type u t low high s.type) at s.shown in omega (arith, ints, e)

-- the answer of one second, which shows the local time or doesn't
abbrev shown_if : Bool → LocalType → LocalResult LocalType
shown_if b t = if b then Single t else None

-- what shows a local time: the earlier second by daylight saving time, the later one by standard time
abbrev pub shown : ℤ → LocalResult LocalType
shown l = joined (shown_if (is_summer (l -ℤ edt.offset)) edt) (shown_if (not (is_summer (l -ℤ est.offset))) est)

-- each of the two seconds was asked
asked_first : (l : ℤ) (b : Bool) → FitsSigned w64 (l -ℤ edt.offset) → least_time ≤ℤ (l -ℤ edt.offset)
    → RuleAt new_york_rule (l -ℤ edt.offset) (type_when new_york b)
    → IsAskedLast (TypeFrom new_york_rule least_time) l edt.offset None (shown_if b edt)
asked_first l true fits since at = asked_found new_york_rule least_time l edt.offset edt None fits since at refl
asked_first l false fits since at = asked_other new_york_rule least_time l edt.offset est None at (λ e. omega (arith, ints, e))

joined_none : (one : LocalResult LocalType) → joined one None ≡ one
joined_none one = grind arith

asked_last : (l : ℤ) (one : LocalResult LocalType) (b : Bool) → FitsSigned w64 (l -ℤ est.offset) → least_time ≤ℤ (l -ℤ est.offset)
    → RuleAt new_york_rule (l -ℤ est.offset) (type_when new_york b)
    → IsAskedLast (TypeFrom new_york_rule least_time) l est.offset one (joined one (shown_if (not b) est))
asked_last l one true fits since at = rw (joined_none one) (asked_other new_york_rule least_time l est.offset edt one at (λ e. omega (arith, ints, e)))
asked_last l one false fits since at = asked_found new_york_rule least_time l est.offset est one fits since at refl

pub wall : (l : ℤ) → pos 1_604_196_000 ≤ℤ l → l <ℤ pos 1_641_150_000
    → IsWallAnswer (Shows (TypeAt new_york_zone) l) (shown l)
wall l low high =
    same_answer (Shows (TypeFrom new_york_rule least_time) l) (Shows (TypeAt new_york_zone) l) _
    (λ u t s. record { fits = s.fits; type = type_of_rule u t s.type.type; shown = s.shown })
    (λ u t s. record { fits = s.fits; shown = s.shown; type = record { type = s.type.in_force.from_last refl; since = let f = s.fits in omega (arith, ints) } })
    (asked_both (TypeFrom new_york_rule least_time) l edt.offset est.offset _ _ (omega arith) (λ u t s. dst_or_std new_york t least_time l u s)
    (asked_first l (is_summer (l -ℤ edt.offset)) (fits_signed_from_abs w64 (l -ℤ edt.offset) (omega (arith, ints))) (omega (arith, ints))
    (rule_at (l -ℤ edt.offset) (omega (arith, ints)) (omega (arith, ints))))
    (asked_last l _ (is_summer (l -ℤ est.offset)) (fits_signed_from_abs w64 (l -ℤ est.offset) (omega (arith, ints))) (omega (arith, ints))
    (rule_at (l -ℤ est.offset) (omega (arith, ints)) (omega (arith, ints)))))

pub once : (l : ℤ) (t : LocalType) → shown l ≡ Single t → pos 1_604_196_000 ≤ℤ l → l <ℤ pos 1_641_150_000 → IsShownOnce (Shows (TypeAt new_york_zone) l) t
once l t is low high = rw is at (wall l low high)

pub twice : (l : ℤ) (s t : LocalType) → shown l ≡ Ambiguous s t → pos 1_604_196_000 ≤ℤ l → l <ℤ pos 1_641_150_000
    → IsShownBetween (Shows (TypeAt new_york_zone) l) s t
twice l s t is low high = rw is at (wall l low high)

pub never : (l : ℤ) → shown l ≡ None → pos 1_604_196_000 ≤ℤ l → l <ℤ pos 1_641_150_000 → IsNeverShown (Shows (TypeAt new_york_zone) l)
never l is low high = rw is at (wall l low high)
