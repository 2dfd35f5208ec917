use Rattle.tests_pins.proofs.{Words.{arith, pos, refl}, LeapSeconds.{leap_time}}
use Rattle.tests_pins.proofs.zones.leap_times.Goals as goal

pub returns : goal.returns
returns c = record {
  before = record { leap_time = pos 78_796_799; of_second = λ _. leap_time _ _ refl (omega arith); in_force = search arith };
  from = record { leap_time = pos 78_796_801; of_second = λ _. leap_time _ _ refl (omega arith); in_force = search arith };
  none_by_unix_time = record { leap_time = pos 78_796_801; of_second = λ _. leap_time _ _ refl (omega arith); in_force = search arith };
}
