use Rattle.offset_core.proofs.{Words.{arith, ints, neg_ℤ}, FixedOffsets.{one_offset_answer}}
use Rattle.offset_core.proofs.laws.east_is_west_of_negative.Goals as goal

pub returns : goal.returns
returns c = λ secs east west x y. one_offset_answer secs (neg_ℤ (neg_ℤ secs)) east west (omega (arith, ints)) x y
