use Rattle.zoned_ffi.proofs.{LimitLaws.{as_many, more_leap_seconds, more_transitions}, Words.{arith}}
use Rattle.zoned_ffi.proofs.pins.limits.Goals as goal

pub returns : goal.returns
returns c = record {
  text = λ bytes h. absurd (omega arith);
  as_many = as_many;
  transition = more_transitions;
  leap_second = more_leap_seconds;
}
