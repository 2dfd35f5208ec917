use Rattle.zoned_ffi.proofs.Words.{IsResolvedAt, IsTakenType, arith, ints, neg_ℤ, pos, refl, ◌-ℤ◌, ◌≡◌}
use Rattle.zoned_ffi.proofs.pins.shifted_gaps.Goals as goal

pub returns-clause-forward : goal.returns-clause-forward
returns-clause-forward c z local change takes = IsTakenType.shifted_forward change takes refl refl

pub returns-clause-backward : goal.returns-clause-backward
returns-clause-backward c z local change takes = IsTakenType.shifted_backward change takes refl refl

pub returns-clause-instant : goal.returns-clause-instant
returns-clause-instant c z choice t taken is there =
    let at : pos 1_615_689_000 -ℤ t.offset ≡ pos 1_615_703_400 = omega (arith, ints) in
    IsResolvedAt.found t (neg_ℤ (pos 18_000)) (omega arith, omega arith) taken (rw at (omega arith, omega arith)) (rw at there) (rw at refl)
