use Rattle.std.proofs.lemmas.Option.{slice_get_within}
use Rattle.tz_info.proofs.Words.{arith, slice_get-get_or, to_z-of_z}
use Rattle.tz_info.specs.Steps.Entries.{one_there}
use Rattle.tz_info.proofs.zone.made.change_list.drop_at.Goals as goal

pub returns-then-ends_at-clause-before : goal.returns-then-ends_at-clause-before
returns-then-ends_at-clause-before c =
    let fs = c.ranges.second in
    let (t, is, at) = rw c.deref.ensures.value at (simp to_z-of_z at (c.ends_at.ensures.0 c.if-ends_at.true)) in
    let some = slice_get_within c.args.entries.now.items _ t is in
    let v = c.pop.ensures.value t in one_there t (grind (arith, slice_get-get_or)) at
