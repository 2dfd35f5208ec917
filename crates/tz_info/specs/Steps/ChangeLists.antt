-- The changes of a stretch as a list that is made second by second. Which list that is says `AreChanges`.
use Rattle.naive_base.specs.{DateOf.{year_of}, Year.{floor_div}}
use Rattle.std.specs.{
  Prelude.{ℕ, zero, suc, ◌==◌, length, List, [], ◌∷◌, ◌++◌, slice_get, slice_index_or, Bool, true, not, ◌&&◌, if◌then◌else◌, nat_lt, ℤ, pos, neg_ℤ},
  Prelude.{◌+ℤ◌, ◌-ℤ◌, int_le, int_lt, unsigned_abs, Option, Some, None},
}
use Rattle.tz_base.specs.{
  LocalTypes.{LocalType},
  contracts.local_time_type.LocalTimeTypePartialEq.TheImpl.{eq-value as type_eq},
  declared.change.Change.{Change},
}
use Rattle.tz_info.specs.{
  Leaps.{corrections, correction_at, least_time, passed_count},
  Moments.{start_in, end_in, type_when},
  Steps.Turns.{is_in_three},
  Transitions.{passed},
  Zones.{Zone, index_at},
  declared.rule.transition_rule.TransitionRule.{TransitionRule, TheVariants.{Fixed, Alternate}},
}

-- ---- the type in force at a second, if one is
-- 64 bits hold the number
abbrev pub is_second : ℤ → Bool
is_second u = int_le least_time u && int_le u (pos 9_223_372_036_854_775_807)

-- 64 bits hold the second with each of the first n corrections
abbrev pub all_fit : List ℤ → ℤ → ℕ → Bool
all_fit corrections u zero = true
all_fit corrections u (suc n) = is_second (u +ℤ slice_index_or corrections n (pos 0)) && all_fit corrections u n

-- a rule answers in the year
abbrev pub is_rule_year : ℤ → Bool
is_rule_year year = int_le (neg_ℤ (pos 2_147_483_646)) year && int_le year (pos 2_147_483_645)

-- daylight saving time at the second u of the year, by moments of three years
abbrev pub is_dst_by_three : (ℤ → ℤ) → (ℤ → ℤ) → ℤ → ℤ → Bool
is_dst_by_three starts ends year u = if int_le (starts year) (ends year) then is_in_three starts ends year u else not (is_in_three ends starts year u)

-- the rule's type at the second u
abbrev pub rule_type : TransitionRule → ℤ → Option LocalType
rule_type (Fixed fixed) u = Some fixed
rule_type (Alternate a) u =
    let year = year_of (floor_div u 86_400) in if is_rule_year year then Some (type_when a (is_dst_by_three (start_in a) (end_in a) year u)) else None

-- the rule's type, or what holds without a rule
abbrev pub rule_type_or : Option TransitionRule → ℤ → Option LocalType → Option LocalType
rule_type_or (Some rule) u otherwise = rule_type rule u
rule_type_or None u otherwise = otherwise

-- the type at the second u, whose leap time is x
abbrev pub type_at_leap_time : Zone → ℤ → ℤ → Option LocalType
type_at_leap_time z u x =
    if nat_lt (length (passed z.transitions x)) (length z.transitions) then slice_get z.types (index_at z x)
    else rule_type_or z.rule u (slice_get z.types (index_at z x))

-- the zone's type at the second u, if it has one
unfoldable pub type_or_none : Zone → ℤ → Option LocalType
type_or_none z u =
    if length z.transitions == 0 then type_at_leap_time z u u
    else (if all_fit (corrections z.leaps) u (passed_count z.leaps u) then type_at_leap_time z u (u +ℤ correction_at z.leaps u) else None)

-- ---- the change at a second, if one is
-- the change at the second u, where types before it and at it are given
abbrev pub change_between : ℤ → Option LocalType → Option LocalType → List Change
change_between u (Some s) (Some t) = if type_eq.it s t then [] else (record { at = u; before = s; after = t } ∷ [])
change_between u (Some s) None = []
change_between u None t = []

-- the change at the second u
abbrev pub change_here : (ℤ → Option LocalType) → ℤ → List Change
change_here types u = if is_second u && is_second (u -ℤ pos 1) then change_between u (types (u -ℤ pos 1)) (types u) else []

-- ---- those of a stretch
-- the changes of n seconds from `from` on
abbrev pub changes_in : (ℤ → Option LocalType) → ℤ → ℕ → List Change
changes_in types from zero = []
changes_in types from (suc n) = changes_in types from n ++ change_here types (from +ℤ pos n)

-- how many seconds there are from `from` on and before `until`
unfoldable pub seconds_between : ℤ → ℤ → ℕ
seconds_between from until = if int_lt from until then unsigned_abs (until -ℤ from) else 0

-- the changes from `from` on and before `until`
unfoldable pub changes_of : Zone → ℤ → ℤ → List Change
changes_of z from until = changes_in (type_or_none z) from (seconds_between from until)
