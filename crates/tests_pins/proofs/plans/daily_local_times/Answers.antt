use Rattle.tests_pins.proofs.Words.{arith, floors, ints, pos, refl}
use Rattle.tests_pins.proofs.plans.daily_local_times.Goals as goal

pub returns-clause-only_next : goal.returns-clause-only_next
returns-clause-only_next c l h =
    let least = h.least (pos 95_400) (omega (arith, ints), omega (arith, ints)) refl (omega (arith, ints)) in
    let planned = h.planned in let after = h.after in omega (arith, ints, floors)

pub returns-clause-only_last : goal.returns-clause-only_last
returns-clause-only_last c l h =
    let most = h.greatest (pos 9_000) (omega (arith, ints), omega (arith, ints)) refl (omega (arith, ints)) in let until = h.not_after in omega (arith, ints)
