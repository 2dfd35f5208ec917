-- Signed numbers that fit 64 bits.
use Rattle.naive_base.proofs.Words.{FitsSigned, of_z, to_z, to_z-of_z, w64, ℤ, ◌≡◌}

pub read_back : {z : ℤ} → FitsSigned w64 z → to_z w64 (of_z w64 z) ≡ z
read_back = to_z-of_z {w = w64}
