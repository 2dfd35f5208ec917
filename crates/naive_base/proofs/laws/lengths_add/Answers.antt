use Rattle.naive_base.specs.Reading.{leap_between}
use Rattle.naive_base.proofs.Lengths.{no_leap, parts_add, plain_parts}
use Rattle.naive_base.proofs.laws.lengths_add.Goals as goal

pub returns-clause-plain : goal.returns-clause-plain
returns-clause-plain c x y z f g h =
    plain_parts x.s y.s z.s x.f y.f z.f (leap_between y x) (leap_between z y) (leap_between z x) (no_leap y x g f) (no_leap z y h g) (no_leap z x h f)

pub returns-clause-leaps : goal.returns-clause-leaps
returns-clause-leaps c x y z = parts_add x.s y.s z.s x.f y.f z.f (leap_between y x) (leap_between z y) (leap_between z x)
