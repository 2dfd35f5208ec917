use Rattle.tests_pins.proofs.{Words.{arith, autumn, inl, inr, ints, spring}, NewYorkChanges.{autumn_is, none_between, one_of_two, spring_is}}
use Rattle.tests_pins.proofs.clock_changes.first_and_last.Goals as goal

pub returns : goal.returns
returns c = record {
  first = record {
    is = spring_is;
    inside = (omega arith, omega arith);
    nearest = λ d is within. let low = within.0 in let high = within.1 in
        elim (one_of_two d (omega (arith, ints)) (omega (arith, ints)) is) [ inl same ↦ rw same (omega arith) | inr same ↦ rw same (omega arith) ];
  };
  last = record {
    is = autumn_is;
    inside = (omega arith, omega arith);
    nearest = λ d is within. let low = within.0 in let high = within.1 in
        elim (one_of_two d (omega (arith, ints)) (omega (arith, ints)) is) [ inl same ↦ rw same (omega arith) | inr same ↦ rw same (omega arith) ];
  };
  not_first = λ h. let first = h.nearest spring spring_is (omega arith, omega arith) in absurd (omega (arith, first));
  not_last = λ h. let last = h.nearest autumn autumn_is (omega arith, omega arith) in absurd (omega (arith, last));
  none_first = none_between;
  none_last = none_between;
}
