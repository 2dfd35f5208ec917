-- Fires under policies in zones whose clocks are set once.
use Rattle.zoned_plans.specs.{Nearest.{IsNextOf}, Policies.{IsShownFire}}
use Rattle.tests_pins.proofs.Words.{AreSetAt, arith, ints, subst, ℤ, ◌+ℤ◌, ◌<ℤ◌, ◌≡◌, ◌≤ℤ◌}

-- what clocks show at a second before they are set, and from then on
pub planned_before : (off : ℤ → ℤ) (plan : ℤ → Type 0) (at k m v : ℤ) → AreSetAt off at k m → v <ℤ at → IsShownFire off plan v → plan (v +ℤ k)
planned_before off plan at k m v set early h = subst (λ (o : ℤ). plan (v +ℤ o)) (set.before v early) h.planned

pub planned_from : (off : ℤ → ℤ) (plan : ℤ → Type 0) (at k m v : ℤ) → AreSetAt off at k m → at ≤ℤ v → IsShownFire off plan v → plan (v +ℤ m)
planned_from off plan at k m v set late h = subst (λ (o : ℤ). plan (v +ℤ o)) (set.from v late) h.planned

-- two first seconds are one
pub one_next : (fire : ℤ → Type 0) (t u v : ℤ) → IsNextOf fire t u → IsNextOf fire t v → u ≡ v
one_next fire t u v a b =
    let less = a.none_skipped v b.fires b.after in let more = b.none_skipped u a.fires a.after in omega (arith, ints, less, more)
