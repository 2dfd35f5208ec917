use Rattle.std.proofs.Common.{arith, inl, inr, refl}
use Rattle.tz_info.specs.FilePlaces.{At_index, At_leap, At_rule, At_time}
use Rattle.tests_pins.proofs.Computed.{files}
use Rattle.tests_pins.proofs.FaultPlaces.{below_1, below_2, first_of_all, in_lists, none_below_0, not_other, pieces_of, second_of_2, two_steps}
use Rattle.tests_pins.proofs.Words.{ints}
use Rattle.tests_pins.specs.FaultyFiles.{of_second_leap}
use Rattle.tests_pins.proofs.fault_places.lists.Goals as goal

pub returns : goal.returns
unfolding files
returns c = record {
  index = in_lists _ _ _ _ refl refl (At_index 1 (second_of_2 (λ bad. absurd (omega (arith, bad))) (omega arith))) refl;
  index_first = in_lists _ _ _ _ refl refl (At_index 0 (first_of_all (omega arith) (omega arith))) refl;
  time = in_lists _ _ _ _ refl refl (At_time 1 (below_2 _ (λ bad. absurd (omega (arith, bad))) (λ bad. absurd (omega (arith, bad))))
      (second_of_2 (λ bad. absurd (omega (arith, bad.0))) (omega arith, omega arith))) refl;
  first_leap = in_lists _ _ _ _ refl refl (At_leap 0 (none_below_0 _) (none_below_0 _) (first_of_all (omega arith) (inl (refl, two_steps)))) refl;
  second_leap = in_lists _ _ _ _ refl refl (At_leap 1 (none_below_0 _) (none_below_0 _) (second_of_2
      (not_other (pieces_of of_second_leap) (record { since_epoch = omega (arith, ints); step = inl refl }))
      (inr (omega arith, λ f. let l = f.later in absurd (omega (arith, ints, l)))))) refl;
  rule = in_lists _ _ _ _ refl refl
      (At_rule (below_1 _ (λ bad. absurd (omega (arith, bad)))) (below_1 _ (λ bad. absurd (omega (arith, bad.0)))) (none_below_0 _)) refl;
}
