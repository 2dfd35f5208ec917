-- The seconds at which two zones of one type each differ.
use Rattle.std.specs.Prelude.{[], ◌∷◌, ◌≢◌}
use Rattle.tz_info.specs.{Differences.{AreDifferences, IsDifference}, declared.zone.ask.differences.Difference.{Difference}}
use Rattle.tests_pins.proofs.Words.{LocalType, arith, by_lt_z, ints, pos, refl, subst, sym, ℤ, ◌∙◌, ◌≡◌}
use Rattle.tests_pins.specs.Differences.{always, hour_of}

module _ (old new : LocalType) (differ : old ≢ new) where
  abbrev pub Differ : Difference → Type 0
  Differ d = IsDifference (always old) (always new) (pos 1_709_229_600) (pos 1_709_233_200) d

  difference_is : (d : Difference) (f u : ℤ) (s t : LocalType) → d.from ≡ f → d.until ≡ u → d.old ≡ s → d.new ≡ t
      → d ≡ record { from = f; until = u; old = s; new = t }
  difference_is d f u s t a b c e = rw (sym a, sym b, sym c, sym e) refl

  it_is : Differ (hour_of old new)
  it_is = record {
    low = omega (arith, ints);
    some = omega (arith, ints);
    high = omega (arith, ints);
    differ = differ;
    each = λ u _ _. (refl, refl);
    begins = λ less. absurd (omega (arith, ints, less));
    ends = λ less. absurd (omega (arith, ints, less));
  }

  only : (d : Difference) → Differ d → d ≡ hour_of old new
  only d h =
      let at = h.each d.from (omega (arith, ints)) h.some in let low = h.low in let high = h.high in
      difference_is d (pos 1_709_229_600) (pos 1_709_233_200) old new
      (by_lt_z (pos 1_709_229_600) d.from (λ less. absurd (h.begins less at.0 at.1)) (λ not. omega (arith, ints)))
      (by_lt_z d.until (pos 1_709_233_200) (λ less. absurd (h.ends less at.0 at.1)) (λ not. omega (arith, ints)))
      at.0 at.1

  pub one_difference : AreDifferences (always old) (always new) (pos 1_709_229_600) (pos 1_709_233_200) (hour_of old new ∷ [])
  one_difference = record {
    rising = λ i j d less within. absurd (omega (arith, less, within));
    each = λ d. (
      λ listed. let none : listed.0 ≡ 0 = (let less = listed.1 in omega (arith, less)) in subst Differ (rw none at listed.2) it_is,
      λ h. (0, omega arith, sym (only d h)),
    );
    covered = λ u s t from until is_old is_new _. (hour_of old new, (0, omega arith, refl), (from, until));
  }

pub no_difference : (one : LocalType) → AreDifferences (always one) (always one) (pos 1_709_229_600) (pos 1_709_233_200) []
no_difference one = record {
  rising = λ i j d less within. absurd (omega (arith, less, within));
  each = λ d. (
    λ listed. let less = listed.1 in absurd (omega (arith, less)),
    λ h. let at = h.each d.from (omega (arith, ints)) h.some in absurd (h.differ (at.0 ∙ sym at.1)),
  );
  covered = λ u s t from until is_old is_new differ. absurd (differ (is_old ∙ sym is_new));
}
