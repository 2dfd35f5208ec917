use Rattle.tz_info.specs.Moments.{IsInSomeYear}
use Rattle.tests_pins.proofs.Words.{arith, ints, ℤ, ◌<ℤ◌, ◌≤ℤ◌}
use Rattle.tests_pins.proofs.rules.start_at_end.Goals as goal

apart : (m u : ℤ) → m ≤ℤ u → u <ℤ m → ⊥
apart m u from until = grind (arith, ints)

never : (moments : ℤ → ℤ) (u : ℤ) → ¬ (IsInSomeYear moments moments u)
never moments u some = apart (moments some.0) u some.1 some.2

pub returns : goal.returns
returns c = grind (arith, ints, never)
