-- Differences of two zones: the stretches of time in which they have different local time types.
use Rattle.std.specs.Prelude.{ℤ, pos, ◌≢◌, ◌-ℤ◌, ◌≤ℤ◌, ◌<ℤ◌, ◌↔◌, List, AllPairs, Contains}
use Rattle.tz_base.specs.LocalTypes.{LocalType}
use Rattle.tz_info.specs.declared.zone.ask.differences.Difference.{Difference}

-- from the second d.from to before d.until the first zone has the type d.old, and the second one another type, d.new; and that is so
-- neither at the second before d.from nor at d.until, unless the stretch searched begins or ends there
pub record IsDifference (first second : ℤ → LocalType → Type 0) (from until : ℤ) (d : Difference) : Type 0 where
  pub low : from ≤ℤ d.from
  pub some : d.from <ℤ d.until
  pub high : d.until ≤ℤ until
  pub differ : d.old ≢ d.new
  pub each : (u : ℤ) → d.from ≤ℤ u → u <ℤ d.until → first u d.old × second u d.new
  pub begins : from <ℤ d.from → first (d.from -ℤ pos 1) d.old → second (d.from -ℤ pos 1) d.new → ⊥
  pub ends : d.until <ℤ until → first d.until d.old → second d.until d.new → ⊥

-- the second u lies in the stretch
abbrev pub IsInDifference : ℤ → Difference → Type 0
IsInDifference u d = (d.from ≤ℤ u) × (u <ℤ d.until)

-- the differences from the second `from` to before `until`: they are in order, d is one of them if and only if it is a difference there,
-- and each second at which the two zones have different types lies in one
pub record AreDifferences (first second : ℤ → LocalType → Type 0) (from until : ℤ) (ds : List Difference) : Type 0 where
  pub rising : AllPairs (λ d e. d.until ≤ℤ e.from) ds
  pub each : (d : Difference) → Contains ds d ↔ IsDifference first second from until d
  pub covered : (u : ℤ) (s t : LocalType) → from ≤ℤ u → u <ℤ until → first u s → second u t → s ≢ t → (d : Difference) × Contains ds d × IsInDifference u d
