-- What a rule says of a second: the type in force, and the seconds on both sides at which clocks change.
use Rattle.std.specs.Prelude.{◌≡◌, Bool, true, false, ℤ, Option, option_map, not}
use Rattle.{
  tz_base.specs.{LocalTypes.{LocalType}, declared.change.Change.{Change}},
  tz_info.specs.{Changes.{IsNearest}, Moments.{AlternateAt, type_when}, Rules.{Alternate}},
  tz_info.specs.{Steps.{Changes.{IsAhead, IsChangeAt}}, declared.rule.{beside.Beside.{Beside}, moments.Moment.{Moment}}},
}

-- the change at the moment that was found, if one was
abbrev pub change_found : Alternate → Option Moment → Option Change
change_found a found = option_map (λ (m : Moment). record { at = m.at; before = type_when a (not m.to_dst); after = type_when a m.to_dst }) found

-- the first change in that direction at a second that `within` accepts, if there is one
abbrev pub IsNearestMomentOf : Bool → Alternate → (ℤ → Type 0) → Option Moment → Type 0
IsNearestMomentOf forward a within found = IsNearest forward (AlternateAt a) within (change_found a found)

-- the change at the second, if there is one
abbrev pub IsMomentAt : Alternate → ℤ → Option Moment → Type 0
IsMomentAt a second found = IsChangeAt (AlternateAt a) second (change_found a found)

-- the second of that change
abbrev pub IsSecondOfNearest : Bool → (ℤ → LocalType → Type 0) → (ℤ → Type 0) → Option ℤ → Type 0
IsSecondOfNearest forward in_force within second = (found : Option Change) × IsNearest forward in_force within found × (second ≡ option_map (λ c. c.at) found)

-- the type at the second u, and the seconds of the last change at u or before it, and of the first one after it
pub record IsBeside (a : Alternate) (u : ℤ) (b : Beside) : Type 0 where
  pub in_force : AlternateAt a u (type_when a b.is_dst)
  pub previous : IsSecondOfNearest false (AlternateAt a) (IsAhead false u) b.previous
  pub next : IsSecondOfNearest true (AlternateAt a) (IsAhead true u) b.next
