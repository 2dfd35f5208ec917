-- If a rule's moments keep away from the ends of their years, a year's own two moments decide in it.
use Rattle.tz_info.proofs.{ChangeSearch.{IsAsked, asked, nearest_either, nearest_moved, stays}, KindLaws.{IsMargin, margin_kept}, Neighbours.{KeepsMargin, dst_by_three, ends_near, in_year, starts_near}, RuleChanges.{rule_second}, RuleLaws.{alternate_at, alternate_once, rule_time, rule_year}, SeasonLaws.season_made, Words.{Alternate, AlternateAt, Bool, Change, HasNoChange, IsAlternateRule, IsCalmRule, IsChange, IsNearest, IsOfYear}, Words.{IsRuleTime, IsRuleYear, IsYearOf, LocalType, Option, arith, cond, days_at_least}, Words.{days_at_most, end_in, false, floor_div, floors, inl, inr, is_dst_by_one}, Words.{lies_in, linear, margin_of, nearer_one, new_year, not, pos, refl}, Words.{start_in, true, turn_of, type_when, year_step, ℤ, ⊎_elim, ◌+ℤ◌, ◌-ℤ◌, ◌<ℤ◌, ◌≡◌, ◌≢◌, ◌≤ℤ◌, ◌⊎◌}}
use Rattle.tz_info.specs.{Steps.{Turns.{dst_by}}, declared.rule.moments.Turns.Turns}

-- ---- clocks change when daylight saving time begins or ends
-- from the year's first second to the next year's it is daylight saving time as `dst` says
abbrev pub Tells : Alternate → ℤ → (ℤ → Bool) → Type 0
Tells a year dst = (u : ℤ) → IsRuleTime u → new_year year ≤ℤ u → u ≤ℤ new_year (year +ℤ pos 1) → AlternateAt a u (type_when a (dst u))

-- no change comes in the year
abbrev pub HasNoneIn : Alternate → ℤ → Type 0
HasNoneIn a year = HasNoChange (AlternateAt a) (λ u. IsYearOf (u -ℤ pos 1) year)

module _ (a : Alternate) (year : ℤ) (dst : ℤ → Bool) (tells : Tells a year dst) where
  -- a change comes only where it begins or ends
  no_turn : (d : Change) → IsChange (AlternateAt a) d → IsYearOf (d.at -ℤ pos 1) year → dst (d.at -ℤ pos 1) ≢ dst d.at
  no_turn d is of_year same =
      let (low, high) = in_year _ _ of_year in
      let before = alternate_once a _ _ _ is.before (tells _ (rule_second a _ _ is.before) low (omega linear)) in
      let after = alternate_once a _ _ _ is.after (tells _ (rule_second a _ _ is.after) (omega linear) (omega linear)) in grind linear

  -- and there one comes, if the types differ
  turn : (u : ℤ) → IsRuleYear year → IsRuleTime u → IsYearOf (u -ℤ pos 1) year → a.std ≢ a.dst → dst (u -ℤ pos 1) ≡ not (dst u)
      → IsChange (AlternateAt a) (record { at = u; before = type_when a (dst (u -ℤ pos 1)); after = type_when a (dst u) })
  turn u inside time of_year types differ =
      let before = rule_time _ _ of_year inside in let (low, high) = in_year _ _ of_year in
      let then = tells _ before low (omega linear) in let here = tells _ time (omega linear) (omega linear) in
      record { fits = omega linear; fits_before = omega linear; before = then; after = here; differ = grind arith }

-- ---- by a year's own two moments
-- if they are apart, it begins at the start and ends at the end, and at no other second
turned : (s e : ℤ) (to_dst : Bool) → s ≢ e → (is_dst_by_one s e (cond to_dst s e) ≡ to_dst) × (is_dst_by_one s e (cond to_dst s e -ℤ pos 1) ≡ not to_dst)
turned s e to_dst apart = grind arith

-- a moment far from the year's ends lies in it, and so does the second before
amid : (moments : ℤ → ℤ) (year : ℤ) → KeepsMargin moments (pos 172_800) → IsYearOf (moments year) year × IsYearOf (moments year -ℤ pos 1) year
amid moments year h =
    let low = h.low year in let high = h.high year in let step = year_step year in let least = days_at_least year in
    omega (arith, floors)

-- a rule
module _ (a : Alternate) (rule : IsAlternateRule a) where
  turns_in : ℤ → Turns
  turns_in year = record { start = start_in a year; end = end_in a year }

  own_type : (year u : ℤ) → IsYearOf u year → IsRuleTime u
      → AlternateAt a u (type_when a (dst_by (turns_in (year -ℤ pos 1)) (turns_in year) (turns_in (year +ℤ pos 1)) u))
  unfolding turns_in
  own_type year u of_second time =
      alternate_at a u _ year _ refl of_second (rule_year u _ of_second time) (dst_by_three _ _ _ u _ (starts_near a rule) (ends_near a rule) of_second refl)

  -- ---- where moments keep away from the ends of their years, the year's own moments decide
  module _ (calm : IsCalmRule a) where
    calm_margin : IsMargin a (pos 172_800)
    unfolding margin_of
    calm_margin = margin_kept a _ rule (rw calm)

    pub calm_tells : (year : ℤ) → Tells a year (is_dst_by_one (start_in a year) (end_in a year))
    calm_tells year u time low high =
        let step = year_step year in let most = days_at_most year in
        (season_made a _ _ _ _ calm_margin refl refl refl refl refl).decided u time (omega (arith, floors))

    inside : (year : ℤ) (to_dst : Bool) → IsYearOf (turn_of a to_dst year) year × IsYearOf (turn_of a to_dst year -ℤ pos 1) year
    inside year to_dst = grind (arith, amid _ year calm_margin.start, amid _ year calm_margin.end)

    -- if they are two, clocks change at each
    pub turn_change : (year : ℤ) (to_dst : Bool) → IsRuleYear year → a.std ≢ a.dst → start_in a year ≢ end_in a year
        → IsChange (AlternateAt a) (record { at = turn_of a to_dst year; before = type_when a (not to_dst); after = type_when a to_dst })
    turn_change year to_dst of_rule types apart =
        let (own, before) = inside year to_dst in let (here, there) = turned _ _ to_dst apart in
        let t = turn a year _ (calm_tells year) (turn_of a to_dst year) of_rule (rule_time _ _ own of_rule) before types in grind arith

    -- and at no other second of the year
    at_moments : (year : ℤ) (d : Change) → IsChange (AlternateAt a) d → IsYearOf (d.at -ℤ pos 1) year → (start_in a year ≡ d.at) ⊎ (end_in a year ≡ d.at)
    at_moments year d is of_year = let turn = no_turn a year _ (calm_tells year) d is of_year in grind linear

    -- so the nearest of the two is the nearest one of the year
    pub nearest_of_two : (w : Bool) (year after last : ℤ) (found other : Option Change)
        → IsAsked (AlternateAt a) after last (start_in a year) found → IsAsked (AlternateAt a) after last (end_in a year) other
        → IsNearest w (AlternateAt a) (IsOfYear after last year) (nearer_one w found other)
    nearest_of_two w year after last found other h k =
        nearest_moved w (AlternateAt a) _ _ _ _
        (λ d is of. (is, ⊎_elim (λ e. inl (e, of.inside)) (λ e. inr (e, of.inside)) (at_moments year d is of.of_year)))
        (λ d is p. (is, let e = inside year true in let f = inside year false in grind linear))
        (nearest_either w (AlternateAt a) _ _ found _ (asked w _ _ _ _ _ h) (asked w _ _ _ _ _ k))

    pub none_of_one : (year : ℤ) → start_in a year ≡ end_in a year → HasNoneIn a year
    none_of_one year one = grind (linear, no_turn a year _ (calm_tells year))

  -- ---- from one second to another, if clocks don't change between them
  -- the type stays
  pub still : (u v : ℤ) (t : LocalType) → HasNoChange (AlternateAt a) (λ w. (u <ℤ w) × (w ≤ℤ v)) → AlternateAt a u t → IsRuleTime v → u ≤ℤ v → AlternateAt a v t
  still u v t none h last le =
      let first = rule_second a u t h in
      stays _ u v t (omega linear) (omega linear) le none
      (λ w low high. (_, own_type _ w (lies_in (floor_div w 86_400)) (omega linear))) h

  pub unchanged : (u v : ℤ) (s t : LocalType) → HasNoChange (AlternateAt a) (λ w. (u <ℤ w) × (w ≤ℤ v)) → AlternateAt a u s → AlternateAt a v t → u ≤ℤ v → s ≡ t
  unchanged u v s t none h k le = alternate_once a v s t (still u v s none h (rule_second a v t k) le) k
