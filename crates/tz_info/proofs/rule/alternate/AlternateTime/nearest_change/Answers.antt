use Rattle.tz_info.proofs.{ChangeSearch.{nearest_ahead, nearest_within, none_in_empty}, Words.{AlternateAt, None, arith, to_z-of_z}}
use Rattle.tz_info.proofs.rule.alternate.AlternateTime.nearest_change.Goals as goal

pub returns-then-is_empty-clause-nearest : goal.returns-then-is_empty-clause-nearest
returns-then-is_empty-clause-nearest c =
    let f = AlternateAt _ in
    nearest_ahead _ f _ _ _ _ None (grind (arith, to_z-of_z)) (none_in_empty f _ _ (c.is_empty.ensures.0 c.if-is_empty.true))

pub returns-clause-nearest : goal.returns-clause-nearest
returns-clause-nearest c =
    let f = AlternateAt _ in
    rw c.change_if.ensures (nearest_ahead _ f _ _ _ _ _ (grind (arith, to_z-of_z))
    (nearest_within _ f _ _ _ _ (grind (arith, to_z-of_z)) (c.moment_within.ensures c.args.self.now)))
