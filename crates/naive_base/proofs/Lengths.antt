-- Lengths that follow one another.
use Rattle.naive_base.proofs.Words.{arith, ints, ℕ, ℤ, ◌≡◌, pos, ◌+ℤ◌, ◌-ℤ◌, ◌*ℤ◌}
use Rattle.std.specs.Prelude.{◌<◌}
use Rattle.naive_base.specs.Reading.{Reading, leap_between}

-- two lengths between three local date-times, and that from the first to the third, with p, q and r leap seconds between
pub parts_add : (x y z : ℤ) (f g h : ℕ) (p q r : ℤ)
    → (pos 1_000_000_000 *ℤ (y -ℤ x) +ℤ pos g -ℤ pos f +ℤ pos 1_000_000_000 *ℤ p)
    +ℤ (pos 1_000_000_000 *ℤ (z -ℤ y) +ℤ pos h -ℤ pos g +ℤ pos 1_000_000_000 *ℤ q)
    -ℤ (pos 1_000_000_000 *ℤ (z -ℤ x) +ℤ pos h -ℤ pos f +ℤ pos 1_000_000_000 *ℤ r) ≡ pos 1_000_000_000 *ℤ (p +ℤ q -ℤ r)
parts_add x y z f g h p q r = omega (arith, ints)

-- and without leap seconds
pub plain_parts : (x y z : ℤ) (f g h : ℕ) (p q r : ℤ) → p ≡ pos 0 → q ≡ pos 0 → r ≡ pos 0
    → (pos 1_000_000_000 *ℤ (y -ℤ x) +ℤ pos g -ℤ pos f +ℤ pos 1_000_000_000 *ℤ p)
    +ℤ (pos 1_000_000_000 *ℤ (z -ℤ y) +ℤ pos h -ℤ pos g +ℤ pos 1_000_000_000 *ℤ q)
    ≡ (pos 1_000_000_000 *ℤ (z -ℤ x) +ℤ pos h -ℤ pos f +ℤ pos 1_000_000_000 *ℤ r)
plain_parts x y z f g h p q r a b c = omega (arith, ints)

-- two local date-times that are no leap seconds have none between
pub no_leap : (a b : Reading) → a.f < 1_000_000_000 → b.f < 1_000_000_000 → leap_between a b ≡ pos 0
no_leap a b f g = grind arith
