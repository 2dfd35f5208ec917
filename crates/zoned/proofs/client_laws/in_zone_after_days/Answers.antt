use Rattle.zoned_time.proofs.Stays.{only_where_in}
use Rattle.zoned.proofs.Words.{Some, arith, ints, stays, ℕ, ◌<◌, ◌≡◌}
use Rattle.zoned.proofs.client_laws.in_zone_after_days.Goals as goal

-- no days leave it, and some give another
by_days : {T : Type 0} (P : T → Type 0) (Later : ℕ → Type 0) (value answer : T) (days : ℕ)
    → P value → ((n : ℕ) → Later n → P answer) → (days ≡ 0 → Some answer ≡ Some value) → (0 < days → Later days) → P answer
by_days P Later value answer days here so none some = grind (arith, ints)

pub returns : goal.returns
returns g c = grind (arith, ints, by_days, stays, only_where_in)
