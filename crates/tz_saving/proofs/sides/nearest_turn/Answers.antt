use Rattle.tz_saving.proofs.{SideLaws.{far, goes, turns}, Words.{arith, fits, to_z-of_z, ◌≡◌}}
use Rattle.tz_saving.proofs.sides.nearest_turn.Goals as goal

pub returns-then-is_wanted : goal.returns-then-is_wanted
returns-then-is_wanted c = turns c.changes-test.true (simp (to_z-of_z, c.ranges.second) at c.changes.invariant) c.in-Some.ensures (grind arith)

pub changes-preserved : goal.changes-preserved
changes-preserved c =
    let fu = c.ranges.second in let fa = c.far_second-reached.type_inv in
    simp fits (rw c.far_second-reached.ensures (goes c.changes-test.true (simp fits at c.changes.invariant) c.in-Some.ensures (grind arith)))

pub returns : goal.returns
returns c = let zero : c.changes.left ≡ 0 = omega arith in far (rw zero at (simp (to_z-of_z, c.ranges.second) at c.changes.invariant))
