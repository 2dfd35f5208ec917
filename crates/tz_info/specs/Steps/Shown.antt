-- What earlier segments and later ones show of a local time together, and the four answers by number.
use Rattle.std.specs.Prelude.{ℕ, zero, suc, ◌≤◌, ◌⊎◌}
use Rattle.tz_info.specs.declared.zone.made.shown.Shown.{Shown, TheVariants.{Less, Skipped, Once, Several}}

abbrev pub together : Shown → Shown → Shown
together Less a = a
together (Skipped j) Less = Skipped j
together (Skipped j) (Skipped k) = Skipped j
together (Skipped j) (Once i) = Once i
together (Skipped j) (Several i k) = Several i k
together (Once i) Less = Once i
together (Once i) (Skipped j) = Once i
together (Once i) (Once k) = Several i k
together (Once i) (Several k m) = Several i m
together (Several i k) Less = Several i k
together (Several i k) (Skipped j) = Several i k
together (Several i k) (Once m) = Several i m
together (Several i k) (Several m n) = Several i n

-- the answer of that number, of the indexes or the place that it needs
abbrev pub unpacked : ℕ → ℕ → ℕ → Shown
unpacked zero i j = Less
unpacked (suc zero) i j = Skipped i
unpacked (suc (suc zero)) i j = Once i
unpacked (suc (suc (suc kind))) i j = Several i j

-- a number of the answer is 2^30 or more
abbrev pub HasGreatNumber : Shown → Type 0
HasGreatNumber Less = ⊥
HasGreatNumber (Skipped place) = 1_073_741_824 ≤ place
HasGreatNumber (Once i) = 1_073_741_824 ≤ i
HasGreatNumber (Several i k) = (1_073_741_824 ≤ i) ⊎ (1_073_741_824 ≤ k)
