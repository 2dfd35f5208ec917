-- Wall clocks: the Unix times at which a clock shows a local time.
use Rattle.std.specs.{Prelude.{◌≡◌, ℤ, ◌+ℤ◌, ◌-ℤ◌, ◌≤ℤ◌, FitsSigned}, Int.{w64}}
use Rattle.offset_core.specs.declared.local_result.LocalResult.{LocalResult, TheVariants.{None, Single, Ambiguous}}
use Rattle.tz_base.specs.LocalTypes.{LocalType}

-- at the Unix time u, one of 64 bits, the type t is in force, and a clock of that type shows the local time: the seconds
-- from 1970-01-01 00:00:00 on the clock, every day counted as 86,400
pub record Shows (in_force : ℤ → LocalType → Type 0) (local u : ℤ) (t : LocalType) : Type 0 where
  pub fits : FitsSigned w64 u
  pub type : in_force u t
  pub shown : u +ℤ t.offset ≡ local

-- each type of the answer is in force at the instant at which a clock of it shows the local time: that time less its offset
abbrev pub AreShown : (ℤ → LocalType → Type 0) → ℤ → LocalResult LocalType → Type 0
AreShown in_force local None = Unit {0}
AreShown in_force local (Single t) = Shows in_force local (local -ℤ t.offset) t
AreShown in_force local (Ambiguous a b) = Shows in_force local (local -ℤ a.offset) a × Shows in_force local (local -ℤ b.offset) b

-- the instant u is that of the answer's type, or lies between those of its two
abbrev pub IsAmongShown : ℤ → ℤ → LocalResult LocalType → Type 0
IsAmongShown local u None = ⊥
IsAmongShown local u (Single t) = u ≡ local -ℤ t.offset
IsAmongShown local u (Ambiguous a b) = ((local -ℤ a.offset) ≤ℤ u) × (u ≤ℤ (local -ℤ b.offset))
