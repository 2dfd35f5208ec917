use Rattle.tz_info.proofs.{
  KindLaws.{IsKept, moment_by_kind},
  Neighbours.{ends_near, starts_near},
  Words.{IsDay, SFits, arith, floors, pos, to_z-of_z, w64, ℤ, ◌*ℤ◌, ◌+ℤ◌},
}
use Rattle.tz_info.proofs.rule.alternate.AlternateTime.turns_from.Goals as goal

-- each of the numbers on the way fits 64 bits
fits : (first second at : ℤ) → IsDay first → IsKept first second at
    → SFits w64 first × SFits w64 (pos 86_400 *ℤ first) × SFits w64 second × SFits w64 (pos 86_400 *ℤ first +ℤ second)
fits first second at bound kept =
    omega (arith, floors)

pub overflow_add-result : goal.overflow_add-result
overflow_add-result c =
    let kept = moment_by_kind _ _ _ _ (pos 0) _ _ c.self.invariant.0.start_day
    (starts_near _ c.self.invariant.0) c.self.invariant.1 c.requires.kind c.requires.first in
    omega (arith, floors)

pub returns-clause-start : goal.returns-clause-start
returns-clause-start c =
    let kept = moment_by_kind _ _ _ _ (pos 0) _ _ c.self.invariant.0.start_day
    (starts_near _ c.self.invariant.0) c.self.invariant.1 c.requires.kind c.requires.first in
    let (at_first, at_midnight, at_seconds, at_sum) = fits _ _ _ c.requires.day kept in grind (arith, to_z-of_z)

pub overflow_add-result-2 : goal.overflow_add-result-2
overflow_add-result-2 c =
    let kept = moment_by_kind _ _ _ _ (pos 0) _ _ c.self.invariant.0.end_day
    (ends_near _ c.self.invariant.0) c.self.invariant.2 c.requires.kind c.requires.first in
    omega (arith, floors)

pub returns-clause-end : goal.returns-clause-end
returns-clause-end c =
    let kept = moment_by_kind _ _ _ _ (pos 0) _ _ c.self.invariant.0.end_day
    (ends_near _ c.self.invariant.0) c.self.invariant.2 c.requires.kind c.requires.first in
    let (at_first, at_midnight, at_seconds, at_sum) = fits _ _ _ c.requires.day kept in grind (arith, to_z-of_z)
