-- The nearest change of a rule, by questions about two years.
use Rattle.tz_info.proofs.{ChangeSearch.{in_ahead, nearest_moved}, ListFaults.equal_known, RuleChanges.{change_again, change_then, cycles_to, rule_second, seconds_follow, year_on, years_rise}, RuleLaws.rule_year, Words.{Alternate, AlternateAt, AreFrom, Bool, Change, HasNoChange, HasNoneBeyond, IsAhead, IsAlternateRule, IsChange, IsNearest, IsNearestChange}, Words.{IsOfYear, IsRuleYear, IsStretchAhead, IsYearNear, IsYearOf, NeverChanges, Option, Precedes, by_lt_z}, Words.{false, linear, neg_ℤ, pos, true, year_at, ℕ, ℤ, ⊎_elim, ◌+◌, ◌-ℤ◌, ◌≡◌, ◌≤ℤ◌}}

-- ahead of the second, and the second before lies in the year
abbrev IsAheadIn : Bool → ℤ → ℤ → ℤ → Type 0
IsAheadIn w s year u = IsAhead w s u × IsYearOf (u -ℤ pos 1) year

-- a second, and a rule's change in a year
module _ (a : Alternate) (s : ℤ) (d : Change) (y : ℤ) (is : IsChange (AlternateAt a) d) (of_year : IsYearOf (d.at -ℤ pos 1) y) where
  of_rule : IsRuleYear y
  of_rule = rule_year _ y of_year (rule_second a _ _ is.before)

  -- years rise from the second to the one before the change, or back
  order : (first : ℤ) → IsYearNear s first → (s ≤ℤ (d.at -ℤ pos 1) → first ≤ℤ y) × ((d.at -ℤ pos 1) ≤ℤ s → y ≤ℤ first)
  order _ h =
      let time = rule_second a _ _ is.before in
      (λ m. years_rise _ _ _ y h.of_near of_year (h.is_near.from _ time m), λ m. years_rise _ _ y _ of_year h.of_near (h.is_near.until _ time m))

  -- changes ahead come in the year of the second, or beyond it
  here_or_beyond : (w : Bool) (first : ℤ) → IsYearNear s first → IsAhead w s d.at → Precedes w first y
  here_or_beyond w first h ahead = let (up, down) = order first h in grind linear

  -- if the year has none, all come beyond it
  beyond_only : (w : Bool) (first : ℤ) → IsYearNear s first → HasNoChange (AlternateAt a) (IsAheadIn w s first) → IsAhead w s d.at
      → Precedes w (year_at w first 1) y
  beyond_only true first h none ahead =
      let (up, down) = order first h in
      by_lt_z first y (λ l. omega linear) (grind linear)
  beyond_only false first h none ahead =
      let (up, down) = order first h in
      by_lt_z y first (λ l. omega linear) (λ m. let same : y ≡ first = omega linear in absurd (none d is (ahead, rw same at of_year)))

  -- a change of a year beyond is ahead
  ahead_by_year : (w : Bool) (first : ℤ) → IsYearNear s first → Precedes w (year_at w first 1) y → IsAhead w s d.at
  ahead_by_year true first h beyond = let (up, down) = order first h in by_lt_z s d.at (λ m. m) (λ m. let l = down (omega linear) in omega linear)
  ahead_by_year false first h beyond = let (up, down) = order first h in by_lt_z s d.at (grind linear) (λ m. m)

-- seconds ahead of the second s, in that direction
module _ (w : Bool) (a : Alternate) (s : ℤ) where
  -- the nearest one of a stretch of all of them, in a year
  pub of_stretch : (year after last : ℤ) (found : Option Change) → IsStretchAhead w (neg_ℤ (pos 9_223_372_036_854_775_808)) s after last
      → IsNearest w (AlternateAt a) (IsOfYear after last year) found → IsNearest w (AlternateAt a) (IsAheadIn w s year) found
  of_stretch _ _ _ _ ahead =
      nearest_moved w _ _ _ _ _
      (λ d is k. (is, record { inside = (in_ahead w _ s _ _ _ is.fits ahead).1 (omega linear, k.0); of_year = k.1 }))
      (λ d is k. (is, (((in_ahead w _ s _ _ _ is.fits ahead).0 k.inside).1, k.of_year)))

  -- if those ahead come in the year or beyond it, its nearest one is the nearest
  found_first : (year : ℤ) (c : Change)
      → ((d : Change) → IsChange (AlternateAt a) d → IsAhead w s d.at → (y : ℤ) → IsYearOf (d.at -ℤ pos 1) y → Precedes w year y)
      → IsNearestChange w (AlternateAt a) (IsAheadIn w s year) c → IsNearestChange w (AlternateAt a) (IsAhead w s) c
  found_first year c all k = record {
    is = k.is;
    inside = k.inside.0;
    nearest = λ d is ahead. ⊎_elim (λ e. k.nearest d is (ahead, rw e at is.before.of_second))
        (λ not. seconds_follow w _ _ _ _ k.inside.1 is.before.of_second not (all d is ahead is.before.year is.before.of_second))
        (equal_known is.before.year _);
  }

  module _ (first : ℤ) (h : IsYearNear s first) where
    pub found_here : (c : Change) → IsNearestChange w (AlternateAt a) (IsAheadIn w s first) c → IsNearestChange w (AlternateAt a) (IsAhead w s) c
    found_here c = found_first _ c (λ d is ahead y of_year. here_or_beyond a s d y is of_year w _ h ahead)

    -- from year to year: if a year beyond has none, all come beyond it, too
    pub from_next : (n : ℕ) → HasNoChange (AlternateAt a) (IsAheadIn w s (year_at w first n)) → AreFrom a w first (year_at w first n)
        → AreFrom a w first (year_at w first (n + 1))
    from_next n empty from d is y of_year beyond =
        year_on w _ y n (λ e. empty d is (ahead_by_year a s d y is of_year w _ h beyond, rw e at of_year)) (from d is y of_year beyond)

    -- the first year asked has none
    module _ (none : HasNoChange (AlternateAt a) (IsAheadIn w s first)) where
      pub none_beyond : HasNoneBeyond a w first → HasNoChange (AlternateAt a) (IsAhead w s)
      none_beyond all d is ahead = all d is is.before.year is.before.of_second (beyond_only a s d _ is is.before.of_second w _ h none ahead)

      -- the nearest one of the first year that has one
      pub found_beyond : (year : ℤ) (c : Change) → AreFrom a w first year → IsNearestChange w (AlternateAt a) (IsAheadIn w s year) c
          → IsNearestChange w (AlternateAt a) (IsAhead w s) c
      found_beyond year c from = found_first year c
          (λ d is ahead y of_year. from d is y of_year (beyond_only a s d y is of_year w _ h none ahead))

-- ---- where no year beyond has one
pub none_out : (a : Alternate) (w : Bool) (first : ℤ) (n : ℕ) → IsRuleYear first → (IsRuleYear (year_at w first n) → ⊥) → AreFrom a w first (year_at w first n)
    → HasNoneBeyond a w first
none_out a true _ n inside out from d is y of_year beyond =
    let on = from d is y of_year beyond in let own = of_rule a y d y is of_year in out (omega linear)
none_out a false first n inside out from d is y of_year beyond =
    let on = from d is y of_year beyond in let own = of_rule a y d y is of_year in out (omega linear)

-- where 400 years have none, no later or earlier year has one
pub never_beyond : (a : Alternate) (w : Bool) (first : ℤ) → IsAlternateRule a → IsRuleYear first → AreFrom a w first (year_at w first 401)
    → HasNoneBeyond a w first
never_beyond a true first rule inside from d is y of_year beyond =
    let on = from d is y of_year beyond in let own = of_rule a y d y is of_year in
    let (k, low, high) = cycles_to y first in
    let (again, then) = change_again a d y k rule is of_year (omega linear) (omega linear) in
    let r = from (change_then d k) again _ then (omega linear) in omega linear
never_beyond a false first rule inside from d is y of_year beyond =
    let own = of_rule a y d y is of_year in
    let (k, low, high) = cycles_to y (first -ℤ pos 401) in
    let (again, then) = change_again a d y k rule is of_year (omega linear) (omega linear) in
    let r = from (change_then d k) again _ then (omega linear) in omega linear

-- a rule that never changes the clocks has no change at all
pub never_at_all : (a : Alternate) (d : Change) → NeverChanges a → IsChange (AlternateAt a) d → ⊥
never_at_all a d never is = is.differ (never (d.at -ℤ pos 1) d.at d.before d.after is.before is.after)
