-- The way to the differences of two zones.
use Rattle.std.specs.Prelude.{ℤ, pos, ◌≡◌, ◌≢◌, ◌⊎◌, ◌-ℤ◌, ◌≤ℤ◌, ◌<ℤ◌, List, [], ◌∷◌, ◌++◌, AllPairs, Contains}
use Rattle.{
  tz_base.specs.LocalTypes.{LocalType},
  tz_info.specs.{Differences.{IsDifference, IsInDifference}, declared.zone.ask.differences.Difference.{Difference}},
}

-- from the second `at` on and before `end`, both zones keep their types; if `end` is before `limit`, one changes there
pub record IsPairUntil (first second : ℤ → LocalType → Type 0) (at limit end : ℤ) : Type 0 where
  pub later : at <ℤ end
  pub most : end ≤ℤ limit
  pub one : (u : ℤ) → at ≤ℤ u → u <ℤ end → (t : LocalType) → first at t → first u t
  pub other : (u : ℤ) → at ≤ℤ u → u <ℤ end → (t : LocalType) → second at t → second u t
  pub turns : end <ℤ limit → (s t : LocalType) → first at s → second at t → first end s → second end t → ⊥

-- what is listed once the second `at` is reached
pub record AreListedTo (first second : ℤ → LocalType → Type 0) (from until at : ℤ) (ds : List Difference) : Type 0 where
  pub reached : from ≤ℤ at
  pub rising : AllPairs (λ d e. d.until ≤ℤ e.from) ds
  pub each : (d : Difference) → Contains ds d → IsDifference first second from until d × (d.until ≤ℤ at)
  pub covered : (u : ℤ) (s t : LocalType) → from ≤ℤ u → u <ℤ at → first u s → second u t → s ≢ t → (d : Difference) × Contains ds d × IsInDifference u d
  pub turned : from <ℤ at → at <ℤ until → (s t : LocalType) → first at s → second at t → first (at -ℤ pos 1) s → second (at -ℤ pos 1) t → ⊥

-- it is listed if its types differ
abbrev pub IsListedIf : List Difference → Difference → List Difference → Type 0
IsListedIf before d after = ((d.old ≡ d.new) × (after ≡ before)) ⊎ ((d.old ≢ d.new) × (after ≡ before ++ d ∷ []))
