-- When a rule's types give way to each other: at its moments and at turns of the year, and every 400 years alike.
use Rattle.std.proofs.lemmas.{Bool.Decides.Decides-int_eq, Map.Made.is_member-Decides}
use Rattle.std.specs.{Ordering.int_eq, Set.is_member}
use Rattle.tz_info.proofs.{
  ChangeSearch.{decided, nearest_moved},
  KindLaws.kind_found,
  Neighbours.{IsNear, ends_near, in_year, not_earlier, not_later, place, starts_near},
  RuleDays.{day_rises, one_rule_day, rule_day_is},
  RuleLaws.{alternate_at, alternate_once, rule_time, rule_year},
  Words.{Alternate, AlternateAt, Bool, Change, Contains, DayTime, IsAlternateRule, IsBetween, IsChange, IsDayOf, IsDstAt, IsEarlierOf, IsInSomeYear, IsLaterOf},
  Words.{IsNearest, IsOfYear, IsOneOf, IsRuleDay, IsRuleTime, IsRuleYear, IsYearOf, LocalType, Option, Precedes, arith, by_lt_z, cond, days_at_least, end_in},
  Words.{false, floor_div, floors, get_or_default, inl, inr, is_leap, kind_place, length, linear, moment, moments_near, new_year, not, one_year, pos, refl},
  Words.{start_in, starts_rise, subst, true, weekday_of, year_at, year_start, year_step, ℕ, ℤ, ⊎_elim, ◌*ℤ◌, ◌+ℤ◌, ◌+◌, ◌-ℤ◌, ◌<ℤ◌, ◌↔◌, ◌≡◌, ◌≢◌, ◌≤ℤ◌, ◌⊎◌},
}

pub rule_second : (a : Alternate) (u : ℤ) (t : LocalType) → AlternateAt a u t → IsRuleTime u
rule_second a u t h = grind (linear, rule_time)

-- the second after one of the year is the rule's too
pub rule_until : (u year : ℤ) → IsYearOf (u -ℤ pos 1) year → IsRuleYear year → IsRuleYear (year +ℤ pos 1) → IsRuleTime u
rule_until u year of_year inside next =
    let here = rule_time _ _ of_year inside in
    let step = year_step (year +ℤ pos 1) in let least = days_at_least (year +ℤ pos 1) in
    let there = rule_time (new_year (year +ℤ pos 1)) _ (omega (arith, floors)) next in
    omega (arith, floors)

-- what some years' moments enclose at two seconds alike is daylight saving time at both, if moments come in one order
dst_alike : (f g : ℤ → ℤ) (year other u v : ℤ) (dst : Bool) → f other -ℤ g other ≡ f year -ℤ g year → IsInSomeYear f g u ↔ IsInSomeYear f g v
    → IsInSomeYear g f u ↔ IsInSomeYear g f v → IsDstAt f g year u dst → IsDstAt f g other v dst
dst_alike f g year other u v dst order on off h = record {
  start_first = λ o. let k = h.start_first (omega linear) in (λ t. on.0 (k.0 t), λ i. k.1 (on.1 i));
  end_first = λ o. let k = h.end_first (omega linear) in (λ t. off.0 (k.0 t), λ i. k.1 (off.1 i));
}

-- ---- the calendar repeats every 400 years: k times as many years later, or earlier where k is below 0
start_again : (y k : ℤ) → year_start (y +ℤ pos 400 *ℤ k) ≡ year_start y +ℤ pos 146_097 *ℤ k
unfolding year_start
start_again y k = omega (arith, floors)

kind_again : (y k : ℤ) → kind_place (y +ℤ pos 400 *ℤ k) ≡ kind_place y
kind_again y k =
    let weekday : weekday_of (year_start y +ℤ pos 146_097 *ℤ k) ≡ weekday_of (year_start y) = grind arith in
    let leap : is_leap (y +ℤ pos 400 *ℤ k) ≡ is_leap y = grind (linear, floors) in grind (arith, start_again)

abbrev cycle : ℤ
cycle = pos 12_622_780_800

abbrev ComesAgain : (ℤ → ℤ) → Type 0
ComesAgain moments = (year k : ℤ) → moments (year +ℤ pos 400 *ℤ k) ≡ moments year +ℤ cycle *ℤ k

moment_again : (t : DayTime) (offset : ℤ) → IsRuleDay t.day → ComesAgain (moment t offset)
moment_again t offset fits year k =
    let here = kind_found t offset year (pos 0) fits in
    let there = rw (kind_again _ k) at (kind_found t offset (year +ℤ pos 400 *ℤ k) (pos 0) fits) in
    let start = start_again year k in
    omega (arith, floors)

-- two seconds so far apart
module _ (u v k : ℤ) (e : v ≡ u +ℤ cycle *ℤ k) where
  some_again : (f g : ℤ → ℤ) → ComesAgain f → ComesAgain g → IsInSomeYear f g u ↔ IsInSomeYear f g v
  some_again f g cf cg = (
    (λ i. let h = cf i.0 k in let m = cg i.0 k in (i.0 +ℤ pos 400 *ℤ k, omega linear, omega linear)),
    (λ i. let h = cf i.0 (pos 0 -ℤ k) in let m = cg i.0 (pos 0 -ℤ k) in (i.0 +ℤ pos 400 *ℤ (pos 0 -ℤ k), omega linear, omega linear)),
  )

  year_again : (year : ℤ) → IsYearOf u year → IsYearOf v (year +ℤ pos 400 *ℤ k)
  year_again year h =
      let a = start_again year k in
      let shift : (year +ℤ pos 1) +ℤ pos 400 *ℤ k ≡ (year +ℤ pos 400 *ℤ k) +ℤ pos 1 = omega linear in
      let b = rw shift at (start_again (year +ℤ pos 1) k) in
      omega (arith, floors)

  -- the rule has the same type at both, if it answers
  type_again : (a : Alternate) (t : LocalType) → IsAlternateRule a → AlternateAt a u t → IsRuleTime v → AlternateAt a v t
  type_again a t rule h time =
      let starts = moment_again a.start a.std.offset rule.start_day in let ends = moment_again a.end a.dst.offset rule.end_day in
      let own = year_again h.year h.of_second in
      let s = starts h.year k in let t = ends h.year k in
      record {
        year = h.year +ℤ pos 400 *ℤ k;
        of_second = own;
        inside = rule_year v _ own time;
        dst = h.dst;
        when = dst_alike _ _ h.year _ u v _ (omega linear) (some_again _ _ starts ends) (some_again _ _ ends starts) h.when;
        shown = h.shown;
      }

abbrev pub change_then : Change → ℤ → Change
change_then d k = record d { at = d.at +ℤ cycle *ℤ k }

-- a change comes again, if the rule answers in that year and in the next one
pub change_again : (a : Alternate) (d : Change) (year k : ℤ) → IsAlternateRule a → IsChange (AlternateAt a) d → IsYearOf (d.at -ℤ pos 1) year
    → IsRuleYear (year +ℤ pos 400 *ℤ k) → IsRuleYear ((year +ℤ pos 400 *ℤ k) +ℤ pos 1)
    → IsChange (AlternateAt a) (change_then d k) × IsYearOf ((d.at +ℤ cycle *ℤ k) -ℤ pos 1) (year +ℤ pos 400 *ℤ k)
change_again a d year k rule is of_year here next =
    let e : (d.at +ℤ cycle *ℤ k) -ℤ pos 1 ≡ (d.at -ℤ pos 1) +ℤ cycle *ℤ k = omega linear in
    let own = year_again _ _ k e year of_year in
    let time = rule_until _ _ own here next in (
      record {
        fits = omega linear;
        fits_before = omega linear;
        before = type_again _ _ k e a _ rule is.before (rule_time _ _ own here);
        after = type_again _ _ k refl a _ rule is.after time;
        differ = is.differ;
      },
      own,
    )

-- ---- no change but at a moment, or at the turn of a year
-- no moment of the year or of its neighbours comes at the second
abbrev Avoids : (ℤ → ℤ) → ℤ → ℤ → Type 0
Avoids moments year u = (y : ℤ) → (year -ℤ pos 1) ≤ℤ y → y ≤ℤ (year +ℤ pos 1) → moments y ≢ u

avoids : (moments : ℤ → ℤ) (year u : ℤ) → moments (year -ℤ pos 1) ≢ u → moments year ≢ u → moments (year +ℤ pos 1) ≢ u → Avoids moments year u
avoids _ year u before here after y low high = grind (arith, place)

-- then what encloses it encloses the second before
some_same : (firsts lasts : ℤ → ℤ) (year u : ℤ) → IsNear firsts → IsNear lasts → Avoids firsts year u → Avoids lasts year u → IsYearOf (u -ℤ pos 1) year
    → IsYearOf u year → IsInSomeYear firsts lasts (u -ℤ pos 1) ↔ IsInSomeYear firsts lasts u
some_same _ _ year u first last no_first no_last before here = (
  (λ i. let (y, a, b) = i in let n = no_last y (not_earlier _ _ _ y last before b) (not_later _ _ _ y first before a) in (y, omega linear, omega linear)),
  (λ i. let (y, a, b) = i in let n = no_first y (not_earlier _ u _ y last here b) (not_later _ u _ y first here a) in (y, omega linear, omega linear)),
)

-- a change comes at a moment near its year, or with the next year
pub change_near : (a : Alternate) (year : ℤ) (d : Change) → IsAlternateRule a → IsChange (AlternateAt a) d → IsYearOf (d.at -ℤ pos 1) year
    → Contains (moments_near a year) d.at
unfolding moments_near
change_near a year d rule is before = ⊎_elim (λ found. found)
    (λ none.
    let (low, high) = in_year _ _ before in
    let below : d.at <ℤ new_year (year +ℤ pos 1) = by_lt_z d.at (new_year (year +ℤ pos 1)) (λ l. l) (λ m. absurd (none (6, omega arith, omega linear))) in
    let here : IsYearOf d.at year = omega (arith, floors) in
    let first = avoids _ year d.at (λ e. none (0, omega arith, e)) (λ e. none (2, omega arith, e)) (λ e. none (4, omega arith, e)) in
    let last = avoids _ year d.at (λ e. none (1, omega arith, e)) (λ e. none (3, omega arith, e)) (λ e. none (5, omega arith, e)) in
    let b = is.before in
    let same = one_year (floor_div (d.at -ℤ pos 1) 86_400) b.year year b.of_second before in
    let on = some_same _ _ _ _ (starts_near a rule) (ends_near a rule) first last before here in
    let off = some_same _ _ _ _ (ends_near a rule) (starts_near a rule) last first before here in
    absurd (is.differ (alternate_once a d.at d.before d.after (record {
      year = year;
      of_second = here;
      inside = grind linear;
      dst = b.dst;
      when = dst_alike _ _ year year _ d.at _ refl on off (subst (λ (y : ℤ). IsDstAt (start_in a) (end_in a) y (d.at -ℤ pos 1) b.dst) same b.when);
      shown = b.shown;
    }) is.after)))
    (decided _ (is_member int_eq (moments_near a year) d.at) (is_member-Decides Decides-int_eq (moments_near a year) d.at))

-- ---- years and seconds
-- years rise with seconds
pub years_rise : (u v x y : ℤ) → IsYearOf u x → IsYearOf v y → u ≤ℤ v → x ≤ℤ y
years_rise u v x y h k l = grind (arith, floors, starts_rise (y +ℤ pos 1) x)

-- ---- changes year by year
pub year_on : (w : Bool) (first y : ℤ) (n : ℕ) → (y ≡ year_at w first n → ⊥) → Precedes w (year_at w first n) y → Precedes w (year_at w first (n + 1)) y
year_on w first y n not h = grind (linear, first)

pub seconds_follow : (w : Bool) (u v x y : ℤ) → IsYearOf (u -ℤ pos 1) x → IsYearOf (v -ℤ pos 1) y → (y ≡ x → ⊥) → Precedes w x y → Precedes w u v
seconds_follow w u v x y h k not p = grind (linear, years_rise (u -ℤ pos 1) (v -ℤ pos 1) x y h k, years_rise (v -ℤ pos 1) (u -ℤ pos 1) y x k h)

-- one of 400 years is a number of cycles away
pub cycles_to : (y first : ℤ) → (k : ℤ) × ((first +ℤ pos 1) ≤ℤ (y +ℤ pos 400 *ℤ k)) × ((y +ℤ pos 400 *ℤ k) ≤ℤ (first +ℤ pos 400))
cycles_to y first = (pos 0 -ℤ floor_div ((y -ℤ first) -ℤ pos 1) 400, omega (arith, floors), omega (arith, floors))

-- the nearest change among the seconds near a year is the nearest one of that year
pub nearest_of_year : (w : Bool) (a : Alternate) (year after last from until : ℤ) (found : Option Change) → IsAlternateRule a
    → IsLaterOf after (new_year year) from → IsEarlierOf last (new_year (year +ℤ pos 1)) until
    → IsNearest w (AlternateAt a) (IsOneOf (moments_near a year) (length (moments_near a year)) from until) found
    → IsNearest w (AlternateAt a) (IsOfYear after last year) found
nearest_of_year w a year after last from until found rule later earlier =
    nearest_moved w _ _ _ _ _
    (λ d is k.
    let (low, high) = in_year _ _ k.of_year in
    let l = (later (d.at -ℤ pos 1)).1 (omega linear, low) in let e = (earlier d.at).1 (k.inside.1, omega linear) in
    (is, grind (linear, get_or_default, change_near a _ d rule is k.of_year)))
    (λ d is one.
    let l = (later (d.at -ℤ pos 1)).0 (omega linear) in let e = (earlier d.at).0 one.inside.1 in
    (is, record { inside = (omega linear, e.0); of_year = omega (arith, floors) }))

-- ---- from which second on a type is in force, and which one a second before
abbrev Rise : (ℤ → ℤ) → Type 0
Rise f = (x y : ℤ) → x ≤ℤ y → f x ≤ℤ f y

moments_rise : (t : DayTime) (offset : ℤ) → IsRuleDay t.day → Rise (moment t offset)
unfolding moment
moments_rise t offset fits x y h =
    by_lt_z x y (λ l. let r = day_rises _ x y fits l in omega (arith, floors)) (λ l. let e : x ≡ y = omega linear in rw e (omega linear))

-- the second at which a clock shows the day's time is the year's moment
moment_is : (t : DayTime) (offset year day u : ℤ) → IsRuleDay t.day → IsDayOf t.day year day
    → (u +ℤ offset) ≡ (pos 86_400 *ℤ day +ℤ t.time) → u ≡ moment t offset year
unfolding moment
moment_is t offset year day u fits of_year shown = let e = one_rule_day t.day year day _ fits of_year (rule_day_is _ _ fits) in omega (arith, floors)

-- where a moment of f comes between those of g, it begins what f and g enclose, or ends what g and f do
sides : (f g : ℤ → ℤ) (year u : ℤ) → Rise f → Rise g → u ≡ f year → IsBetween g f year
    → ((f year <ℤ g year) × IsInSomeYear f g u × (IsInSomeYear f g (u -ℤ pos 1) → ⊥))
    ⊎ ((g year <ℤ f year) × IsInSomeYear g f (u -ℤ pos 1) × (IsInSomeYear g f u → ⊥))
sides f g year u rf rg e (inl (before, after)) = inl (
  omega linear,
  (year, omega linear, omega linear),
  λ i. by_lt_z i.0 year
      (λ l. let r = rg i.0 (year -ℤ pos 1) (omega linear) in omega linear) (λ l. let r = rf year i.0 (omega linear) in omega linear),
)
sides f g year u rf rg e (inr (before, after)) = inr (
  omega linear,
  (year, omega linear, omega linear),
  λ i. by_lt_z year i.0
      (λ l. let r = rg (year +ℤ pos 1) i.0 (omega linear) in omega linear) (λ l. let r = rf i.0 year (omega linear) in omega linear),
)

-- at a moment that comes between the others daylight saving time begins, or is over
turns : (f g : ℤ → ℤ) (year u : ℤ) (to_dst : Bool) → Rise f → Rise g → u ≡ f year → IsBetween g f year
    → IsDstAt (cond to_dst f g) (cond to_dst g f) year u to_dst × IsDstAt (cond to_dst f g) (cond to_dst g f) year (u -ℤ pos 1) (not to_dst)
turns f g year u true rf rg e between =
    ⊎_elim (λ side. let (order, there, out) = side in grind linear) (λ side. let (order, there, out) = side in grind linear) (sides f g year u rf rg e between)
turns f g year u false rf rg e between =
    ⊎_elim (λ side. let (order, there, out) = side in grind linear) (λ side. let (order, there, out) = side in grind linear) (sides f g year u rf rg e between)

module _ (a : Alternate) (year day u : ℤ) (rule : IsAlternateRule a) (inside : IsRuleYear year) where
  pub starts : IsDayOf a.start.day year day → (u +ℤ a.std.offset) ≡ (pos 86_400 *ℤ day +ℤ a.start.time) → IsBetween (end_in a) (start_in a) year
      → (IsYearOf u year → AlternateAt a u a.dst) × (IsYearOf (u -ℤ pos 1) year → AlternateAt a (u -ℤ pos 1) a.std)
  starts of_year clock between =
      grind (
        arith,
        alternate_at,
        turns (start_in a) (end_in a) year u true (moments_rise _ _ rule.start_day) (moments_rise _ _ rule.end_day)
            (moment_is _ _ _ day u rule.start_day of_year clock) between,
      )

  pub ends : IsDayOf a.end.day year day → (u +ℤ a.dst.offset) ≡ (pos 86_400 *ℤ day +ℤ a.end.time) → IsBetween (start_in a) (end_in a) year
      → (IsYearOf u year → AlternateAt a u a.std) × (IsYearOf (u -ℤ pos 1) year → AlternateAt a (u -ℤ pos 1) a.dst)
  ends of_year clock between =
      grind (
        arith,
        alternate_at,
        turns (end_in a) (start_in a) year u false (moments_rise _ _ rule.end_day) (moments_rise _ _ rule.start_day)
            (moment_is _ _ _ day u rule.end_day of_year clock) between,
      )
