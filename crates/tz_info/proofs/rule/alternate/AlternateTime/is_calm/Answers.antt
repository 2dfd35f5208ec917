use Rattle.tz_info.proofs.Words.{to_z-of_z, List, are_calm, arith, ints, margin_of, pos, true, ℤ, ◌<ℤ◌, ◌≡◌}
use Rattle.tz_info.proofs.rule.alternate.AlternateTime.is_calm.Goals as goal

above : (starts ends : List ℤ) → pos 0 <ℤ margin_of starts ends → are_calm starts ends ≡ true
unfolding margin_of
above starts ends h = grind (arith, ints)

pub returns : goal.returns
returns c = grind (arith, to_z-of_z, above)
