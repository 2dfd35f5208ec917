-- Lines one after the other, and seconds in years.
use Rattle.zonedump_lib.proofs.CitedWords.{Change, FitsSigned, IsInYears, List, append_assoc, arith, ended_line, ints, pair_lines, pos, second_text, w64}
use Rattle.zonedump_lib.proofs.CitedWords.{ℕ, ℤ, ◌++◌, ◌-ℤ◌, ◌≡◌}

-- a second in the years fits 64 bits
pub second_fits : (at : ℤ) → IsInYears at → FitsSigned w64 at
second_fits at in_years = let low = in_years.0 in let high = in_years.1 in omega (arith, ints, low, high)

-- a pair of lines is appended, one by one
pub pair_told : (name : List ℕ) (c : Change) (start one two : List ℕ) (before at : ℤ) → before ≡ c.at -ℤ pos 1 → at ≡ c.at
    → one ≡ start ++ ended_line (second_text name before c.before) → two ≡ one ++ ended_line (second_text name at c.after) → two ≡ start ++ pair_lines name c
pair_told name c start one two before at is_before is_at first second = grind (arith, append_assoc)
