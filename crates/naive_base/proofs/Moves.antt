-- The cases of a move.
use Rattle.naive_base.proofs.Words.{Reading, arith, difference, floor_mod_parts, floors, ints, leap_between, moved, moved_leap, nat_tests, neg_ℤ, of_total, pos}
use Rattle.naive_base.proofs.Words.{total, unsigned_abs, ℤ, ◌*ℤ◌, ◌+ℤ◌, ◌-ℤ◌, ◌<ℤ◌, ◌<◌, ◌≡◌, ◌≤ℤ◌, ◌≤◌}

pub moved-plain : (r : Reading) (d : ℤ) → r.f < 1_000_000_000 → moved r d ≡ of_total (total r +ℤ d)
moved-plain r d h = grind (arith, nat_tests)

pub moved-leap : (r : Reading) (d : ℤ) → 1_000_000_000 ≤ r.f → moved r d ≡ moved_leap r.s (pos r.f +ℤ d)
moved-leap r d h = grind (arith, nat_tests)

pub moved_leap-within : (s p : ℤ) → pos 0 ≤ℤ p → p <ℤ pos 2_000_000_000
    → moved_leap s p ≡ record { s = s; f = unsigned_abs p }
moved_leap-within s p h k = grind (arith, ints)

pub moved_leap-behind : (s p : ℤ) → pos 2_000_000_000 ≤ℤ p
    → moved_leap s p ≡ of_total (s *ℤ pos 1_000_000_000 +ℤ p -ℤ pos 1_000_000_000)
moved_leap-behind s p h = grind (arith, ints)

-- Local date-times that are no leap second are their whole nanoseconds.

of_total-total-reading : (r : Reading) → r.f < 1_000_000_000 → of_total (total r) ≡ r
of_total-total-reading r h = grind arith

total-of_total : (n : ℤ) → total (of_total n) ≡ n
total-of_total n = let parts = floor_mod_parts n 1_000_000_000 (omega arith) in omega (arith, floors)

pub moved-plain_again : (r : Reading) (d : ℤ) → r.f < 1_000_000_000 → (moved r d).f < 1_000_000_000
moved-plain_again r d h = grind (arith, floors)

-- outside leap seconds all of it goes on by as much
pub total-moved : (r : Reading) (d : ℤ) → r.f < 1_000_000_000 → total (moved r d) ≡ total r +ℤ d
total-moved r d h = rw (moved-plain r d h) (total-of_total (total r +ℤ d))

undone : (n d : ℤ) → (n +ℤ d) +ℤ neg_ℤ d ≡ n
undone n d = omega (arith, floors)

pub moved-moved_back : (r : Reading) (d : ℤ) → r.f < 1_000_000_000 → moved (moved r d) (neg_ℤ d) ≡ r
moved-moved_back r d h = grind (arith, moved-plain, total-moved, undone, of_total-total-reading)

leap_between-plain : (a b : Reading) → a.f < 1_000_000_000 → b.f < 1_000_000_000 → leap_between a b ≡ pos 0
leap_between-plain a b h k = grind (arith, nat_tests)

difference-plain : (a b : Reading) → a.f < 1_000_000_000 → b.f < 1_000_000_000 → difference a b +ℤ total b ≡ total a
difference-plain a b h k = rw (leap_between-plain a b h k) (omega (arith, floors))

pub difference-moved : (r : Reading) (d : ℤ) → r.f < 1_000_000_000 → difference (moved r d) r ≡ d
difference-moved r d h = omega (arith, floors, difference-plain (moved r d) r (moved-plain_again r d h) h, total-moved r d h)

-- a local date-time moved by what lies between is the other one
pub moved-difference : (a b : Reading) → a.f < 1_000_000_000 → b.f < 1_000_000_000 → moved b (difference a b) ≡ a
moved-difference a b h k =
    let e : total b +ℤ difference a b ≡ total a = omega (arith, ints, difference-plain a b h k) in
    rw (moved-plain b (difference a b) k, e) (of_total-total-reading a h)

-- A local date-time and itself.

pub difference-itself : (r : Reading) → difference r r ≡ pos 0
difference-itself r = grind (arith, floors)

-- by a move of no length a local date-time stays
pub moved-none : (r : Reading) → r.f < 2_000_000_000 → moved r (pos 0) ≡ r
moved-none r h = grind arith

pub ruleset moves_back = (moved-plain_again, moved-moved_back, difference-moved, moved-none, difference-itself)
