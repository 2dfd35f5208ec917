-- Numbers in as many digits as they have.
use Rattle.offset_core.proofs.Words.{append_assoc, arith, decimal, decimal_digit, decimal_step, length, length-append, length-decimal-le, ℕ, ◌<◌, ◌^◌, ◌≤◌}

-- the seconds of the longest length have 16 digits
pub seconds_fit : (n : ℕ) → n < 10 ^ 16 → length (decimal n) ≤ 16
seconds_fit n low = length-decimal-le 16 n (omega arith) low (omega arith)

pub ruleset decimals = (append_assoc, decimal_digit, decimal_step, length-append)
