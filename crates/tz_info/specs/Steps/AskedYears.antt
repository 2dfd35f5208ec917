-- A rule is asked about years: which one is asked, and which one next.
use Rattle.std.specs.Prelude.{◌≡◌, Bool, true, if◌then◌else◌, ℤ, pos, ◌-ℤ◌}
use Rattle.tz_base.specs.declared.change.Change.{Change}
use Rattle.tz_info.specs.{
  Changes.{IsChange, Precedes},
  Moments.{AlternateAt, IsRuleYear, IsYearOf, end_in, start_in},
  Rules.{Alternate, IsAlternateRule},
  Steps.{Changes.{IsNearRuleTime, year_at}, Kinds.{are_calm, ends_of, starts_of}},
  declared.rule.asked.AskedYear.{AskedYear},
}

-- all moments of the rule keep away from the ends of their years
abbrev pub IsCalmRule : Alternate → Type 0
IsCalmRule a = are_calm (starts_of a) (ends_of a) ≡ true

-- when daylight saving time starts in the year, or ends
abbrev pub turn_of : Alternate → Bool → ℤ → ℤ
turn_of a to_dst year = if to_dst then start_in a year else end_in a year

-- the rule was asked about the year
pub record IsAskedYear (a : Alternate) (asked : AskedYear) : Type 0 where
  pub rule : IsAlternateRule a
  pub inside : IsRuleYear asked.year
  pub start : asked.turns.start ≡ start_in a asked.year
  pub end : asked.turns.end ≡ end_in a asked.year

-- the second of the rule's years that is nearest to that one lies in the year
pub record IsYearNear (second year : ℤ) : Type 0 where
  pub near : ℤ
  pub of_near : IsYearOf near year
  pub is_near : IsNearRuleTime second near
  pub inside : IsRuleYear year

-- the changes beyond the year `first` in that direction come in the year or beyond it, if the second before each counts
abbrev pub AreFrom : Alternate → Bool → ℤ → ℤ → Type 0
AreFrom a w first year =
    (d : Change) → IsChange (AlternateAt a) d → (y : ℤ) → IsYearOf (d.at -ℤ pos 1) y → Precedes w (year_at w first 1) y → Precedes w year y

-- no change comes beyond the year `first` in that direction
abbrev pub HasNoneBeyond : Alternate → Bool → ℤ → Type 0
HasNoneBeyond a w first =
    (d : Change) → IsChange (AlternateAt a) d → (y : ℤ) → IsYearOf (d.at -ℤ pos 1) y → Precedes w (year_at w first 1) y → ⊥
