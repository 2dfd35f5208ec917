-- How many binary digits a number has: the most probes that a search takes which halves.
use Rattle.std.specs.Prelude.{ℕ, zero, suc, ◌/◌}

-- the binary digits of m, of which there are at most `fuel`
abbrev pub digits_within : ℕ → ℕ → ℕ
digits_within zero m = 0
digits_within (suc fuel) zero = 0
digits_within (suc fuel) (suc m) = suc (digits_within fuel (suc m / 2))

-- 0 has none, and another number one more than its half
unfoldable pub digits : ℕ → ℕ
digits m = digits_within m m
