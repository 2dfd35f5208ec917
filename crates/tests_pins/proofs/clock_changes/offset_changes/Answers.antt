use Rattle.tests_pins.proofs.Words.{LocalType, TypeAt, ap, arith, autumn, inl, inr, ints, new_york_zone, pos, refl, spring, sym, ℤ, ◌-ℤ◌, ◌∙◌, ◌≡◌}
use Rattle.tests_pins.proofs.NewYorkChanges.{autumn_is, one_of_two, spring_is}
use Rattle.tz_info.specs.OffsetChanges.{IsOffsetChange}
use Rattle.tests_pins.specs.Changes.{at_epoch, cet, dst_cet}
use Rattle.tests_pins.proofs.clock_changes.offset_changes.Goals as goal

offset_of : (u : ℤ) (t : LocalType) → at_epoch cet dst_cet u t → t.offset ≡ pos 3_600
offset_of u t (inl before) = ap (λ (x : LocalType). x.offset) before.1
offset_of u t (inr after) = ap (λ (x : LocalType). x.offset) after.1

spring_of : IsOffsetChange (TypeAt new_york_zone) spring
spring_of = record { is = spring_is; other = λ e. absurd (omega (arith, ints, e)) }

autumn_of : IsOffsetChange (TypeAt new_york_zone) autumn
autumn_of = record { is = autumn_is; other = λ e. absurd (omega (arith, ints, e)) }

pub returns : goal.returns
returns c = record {
  flag = λ h. h.other refl;
  name = λ h. h.other refl;
  kept = λ d h within. h.other (offset_of (d.at -ℤ pos 1) d.before h.is.before ∙ sym (offset_of d.at d.after h.is.after));
  spring = spring_of;
  first = record {
    is = spring_of;
    inside = (omega arith, omega arith);
    nearest = λ d h within. let low = within.0 in let high = within.1 in
        elim (one_of_two d (omega (arith, ints)) (omega (arith, ints)) h.is) [ inl same ↦ rw same (omega arith) | inr same ↦ rw same (omega arith) ];
  };
  last = record {
    is = autumn_of;
    inside = (omega arith, omega arith);
    nearest = λ d h within. let low = within.0 in let high = within.1 in
        elim (one_of_two d (omega (arith, ints)) (omega (arith, ints)) h.is) [ inl same ↦ rw same (omega arith) | inr same ↦ rw same (omega arith) ];
  };
  not_kept = λ none. none spring spring_of (omega arith, omega arith);
}
