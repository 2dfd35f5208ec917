-- New York's gap, clock changes and span of standard time from November 2020 to the end of 2021.
use Rattle.tz_info.proofs.{ChangeLaws.{one_change, one_type_before_gap}, SpanLaws.{span_once}, ZoneLaws.{type_once}}
use Rattle.tz_info.specs.{Gaps.{HasGap, IsTypeBeforeGap}, Moments.{type_when}, SpanSteps.{IsNextSpan, IsPreviousSpan, SpanPlace, begin_of, end_of}}
use Rattle.tz_info.specs.Spans.{IsInSpan}
use Rattle.tests_pins.proofs.Words.{AreChanges, Change, Contains, IsChange, IsFromUntil, IsSpanAt, LocalType, TypeAt, [], ap, arith, autumn, by_lt_z, change_at}
use Rattle.tests_pins.proofs.Words.{edt, est, false, fits_signed_from_abs, get_or, inl, inr, ints, new_york_zone, pos, refl, spring, subst, sym, w64, winter, ℕ}
use Rattle.tests_pins.proofs.Words.{ℤ, ◌+ℤ◌, ◌-ℤ◌, ◌<ℤ◌, ◌<◌, ◌∙◌, ◌∷◌, ◌≡◌, ◌≤ℤ◌, ◌⊎◌}
use Rattle.tests_pins.proofs.NewYork.{by_dst, edt_until_2020, is_summer, never, one_type, type_at, type_of_rule, wall}
use Rattle.tz_base.specs.declared.span.Span.{Span}
use Rattle.tests_pins.specs.{NewYork.{new_york}, Spans.{place_before}}
use Rattle.std.specs.Prelude.{None, Option, Some}

pub apart : est ≡ edt → ⊥
apart e = grind arith

-- ---- the gap at 02:30 on 14 March
pub gap : HasGap (TypeAt new_york_zone) (pos 1_615_689_000) est edt (pos 1_615_705_200)
gap = record {
  never = wall (pos 1_615_689_000) (omega arith) (omega arith);
  here = type_at (pos 1_615_705_200) (omega arith) (omega arith);
  more = omega arith;
  least = λ u m. by_lt_z u (pos 1_615_705_200)
      (λ early.
      let r = m.here.in_force.from_last refl in let more = m.more in
      let reach = by_dst u (u +ℤ m.type.offset) m.type r.dst r.shown refl in
      let same : is_summer u ≡ false = grind (arith, ints) in
      let std = rw same at (one_type u m.type (omega (arith, ints, reach)) (omega (arith, ints)) m.here) in
      grind (arith, ints))
      (λ late. late);
  earlier = type_at (pos 1_615_705_199) (omega arith) (omega arith);
}

pub before_gap : IsTypeBeforeGap (TypeAt new_york_zone) (pos 1_615_689_000) est
before_gap =
    record {
      never = gap.never;
      first = pos 1_615_705_200;
      more = record { type = edt; here = gap.here; more = gap.more };
      least =
          gap.least;
      before = gap.earlier;
    }

pub only_before_gap : (t : LocalType) → IsTypeBeforeGap (TypeAt new_york_zone) (pos 1_615_689_000) t → t ≡ est
only_before_gap t h = one_type_before_gap new_york_zone (pos 1_615_689_000) t est h before_gap

-- ---- changes
change_is : (u : ℤ) (before after : LocalType) → pos 1 ≤ℤ u → u ≤ℤ pos 2_000_000_000 → TypeAt new_york_zone (u -ℤ pos 1) before → TypeAt new_york_zone u after
    → (before ≡ after → ⊥) → IsChange (TypeAt new_york_zone) (change_at u before after)
change_is u before after low high was is differ = grind (arith, ints, fits_signed_from_abs)

pub spring_is : IsChange (TypeAt new_york_zone) spring
spring_is = change_is (pos 1_615_705_200) est edt (omega arith) (omega arith) (type_at (pos 1_615_705_199) (omega arith) (omega arith)) gap.here apart

pub autumn_is : IsChange (TypeAt new_york_zone) autumn
autumn_is = grind (arith, ints, change_is, type_at, apart)

-- no others come after the end of daylight saving time in 2020, until 2022 has begun
pub no_change : (c : Change) → pos 1_604_210_400 <ℤ c.at → c.at <ℤ pos 1_641_168_000 → is_summer (c.at -ℤ pos 1) ≡ is_summer c.at
    → IsChange (TypeAt new_york_zone) c → ⊥
no_change c low high same is = is.differ (one_type (c.at -ℤ pos 1) c.before (omega (arith, ints)) (omega (arith, ints)) is.before
    ∙ ap (type_when new_york) same ∙ sym (one_type c.at c.after (omega (arith, ints)) high is.after))

alike : (u : ℤ) → (u ≡ pos 1_615_705_200 → ⊥) → (u ≡ pos 1_636_264_800 → ⊥) → is_summer (u -ℤ pos 1) ≡ is_summer u
alike u start end = grind (arith, ints)

pub one_of_two : (c : Change) → pos 1_604_210_400 <ℤ c.at → c.at <ℤ pos 1_641_168_000 → IsChange (TypeAt new_york_zone) c → (c ≡ spring) ⊎ (c ≡ autumn)
one_of_two c low high is = by_cases c.at (pos 1_615_705_200)
    (λ at. inl (one_change new_york_zone c spring is spring_is at))
    (λ start. by_cases c.at (pos 1_636_264_800)
    (λ at. inr (one_change new_york_zone c autumn is autumn_is at))
    (λ end. absurd (no_change c low high (alike c.at start end) is)))
  where
    by_cases : {P : Type 0} (x y : ℤ) → (x ≡ y → P) → ((x ≡ y → ⊥) → P) → P
    by_cases x y same other = by_lt_z x y
        (λ less. other (λ e. omega (arith, ints)))
        (λ not. by_lt_z y x (λ more. other (λ e. omega (arith, ints))) (λ most. same (omega (arith, ints))))

-- ---- the lists
only_spring : (c : Change) → Contains (spring ∷ []) c → spring ≡ c
only_spring c inside = grind arith

both : (c : Change) → Contains (spring ∷ autumn ∷ []) c → (spring ≡ c) ⊎ (autumn ≡ c)
both c inside = grind arith

two_rise : (i j : ℕ) (d : Change) → i < j → j < 2 → (get_or (spring ∷ autumn ∷ []) i d).at <ℤ (get_or (spring ∷ autumn ∷ []) j d).at
two_rise i j d before below = grind (arith, ints)

-- both changes are all of a stretch around them
pub both_listed : (from until : ℤ) → pos 1_604_210_400 <ℤ from → from ≤ℤ pos 1_615_705_200 → pos 1_636_264_800 <ℤ until → until ≤ℤ pos 1_641_168_000
    → AreChanges (TypeAt new_york_zone) from until (spring ∷ autumn ∷ [])
both_listed from until early low high late = record {
  rising = two_rise;
  each = λ c. (
    λ inside. elim (both c inside) [
      | inl same ↦ subst (λ (x : Change). IsChange (TypeAt new_york_zone) x × IsFromUntil from until x.at) same (spring_is, (low, omega (arith, ints)))
      | inr same ↦ subst (λ (x : Change). IsChange (TypeAt new_york_zone) x × IsFromUntil from until x.at) same (autumn_is, (omega (arith, ints), high))
    ],
    λ k. let low = k.1.0 in let high = k.1.1 in elim (one_of_two c (omega (arith, ints)) (omega (arith, ints)) k.0) [
      | inl same ↦ (0, omega arith, sym same)
      | inr same ↦ (1, omega arith, sym same)
    ],
  );
}

pub until_autumn : AreChanges (TypeAt new_york_zone) (pos 1_615_705_200) (pos 1_636_264_800) (spring ∷ [])
until_autumn = record {
  rising = λ i j d before below. absurd (omega (arith, before, below));
  each = λ c. (
    λ inside. subst (λ (x : Change). IsChange (TypeAt new_york_zone) x × IsFromUntil (pos 1_615_705_200) (pos 1_636_264_800) x.at) (only_spring c inside)
        (spring_is, (omega arith, omega arith)),
    λ k. let low = k.1.0 in let high = k.1.1 in elim (one_of_two c (omega (arith, ints)) (omega (arith, ints)) k.0) [
      | inl same ↦ (0, omega arith, sym same)
      | inr same ↦ let at = rw same at high in absurd (omega (arith, at))
    ],
  );
}

pub not_spring_alone : AreChanges (TypeAt new_york_zone) (pos 1_609_459_200) (pos 1_640_995_200) (spring ∷ []) → ⊥
not_spring_alone h = grind (arith, ints, ap (λ (c : Change). c.at) (only_spring autumn ((h.each autumn).1 (autumn_is, (omega arith, omega arith)))))

-- after the change in spring, and before the one in autumn
pub none_between : (c : Change) → IsChange (TypeAt new_york_zone) c → IsFromUntil (pos 1_615_705_201) (pos 1_636_264_800) c.at → ⊥
none_between c is within = let low = within.0 in let high = within.1 in no_change c (omega (arith, ints)) (omega (arith, ints)) (grind (arith, ints)) is

-- ---- the span of standard time in the winter of 2020
pub winter_is : IsSpanAt (TypeAt new_york_zone) (pos 1_615_705_199) winter
winter_is = record {
  in_force_then = type_at (pos 1_615_705_199) (omega arith) (omega arith);
  inside = inside;
  span = record {
    some = (pos 1_615_705_199, inside);
    each = λ u i.
        let since = i.since in let until = i.until in let same : is_summer u ≡ false = grind (arith, ints) in
        rw same at (type_at u since (omega (arith, ints)));
    begins = record {
      fits = fits_signed_from_abs w64 (pos 1_604_210_399) (omega arith);
      out = λ h. apart (type_once new_york_zone (pos 1_604_210_399) est edt h (type_of_rule (pos 1_604_210_399) edt edt_until_2020));
    };
    ends = record {
      fits = fits_signed_from_abs w64 (pos 1_615_705_200) (omega arith);
      out = λ h. apart (type_once new_york_zone (pos 1_615_705_200) est edt h gap.here);
    };
  };
} where
  inside : IsInSpan winter (pos 1_615_705_199)
  inside = record { fits = fits_signed_from_abs w64 (pos 1_615_705_199) (omega arith); since = omega arith; until = omega arith }

pub only_winter : (s : Span) → IsSpanAt (TypeAt new_york_zone) (pos 1_615_705_199) s → s ≡ winter
only_winter s h = span_once new_york_zone s winter (pos 1_615_705_199) h.span winter_is.span h.inside winter_is.inside

-- ---- steps over that span
pub next_is_winter : IsNextSpan (place_before (pos 1_615_705_199)) (Some winter) (place_before (pos 1_615_705_200))
next_is_winter = record { zone = refl; span = winter_is; at = refl }

pub previous_is_winter : IsPreviousSpan (place_before (pos 1_615_705_200)) (Some winter) (place_before (pos 1_604_210_400))
previous_is_winter = record { zone = refl; span = winter_is; at = refl }

pub only_next : (found : Option Span) (after : SpanPlace) → IsNextSpan (place_before (pos 1_615_705_199)) found after
    → (found ≡ Some winter) × (after.at ≡ pos 1_615_705_200)
only_next None after h = absurd (h.span winter winter_is)
only_next (Some s) after h = let is = only_winter s h.span in (ap Some is, h.at ∙ ap end_of is)

pub only_previous : (found : Option Span) (after : SpanPlace) → IsPreviousSpan (place_before (pos 1_615_705_200)) found after
    → (found ≡ Some winter) × (after.at ≡ pos 1_604_210_400)
only_previous None after h = absurd (h.span winter winter_is)
only_previous (Some s) after h = let is = only_winter s h.span in (ap Some is, h.at ∙ ap begin_of is)
