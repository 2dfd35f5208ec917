-- The walks over those local times of a plan that another set has, or doesn't have.
use Rattle.naive_base.proofs.Words.{IsWide, arith, ints, ℤ, ◌-ℤ◌, ◌<ℤ◌, ◌≡◌, ◌≤ℤ◌, pos}
use Rattle.naive_plans.specs.Plans.{IsLastUntil, IsNextAfter}

-- the local times of both sets
abbrev pub both : (ℤ → Type 0) → (ℤ → Type 0) → ℤ → Type 0
both plan kept l = plan l × kept l

-- all of them after `local` come after another second
abbrev pub AreLaterThan : (ℤ → Type 0) → (ℤ → Type 0) → ℤ → ℤ → Type 0
AreLaterThan plan kept local after = (local ≤ℤ after) × ((m : ℤ) → IsWide m → plan m → kept m → local <ℤ m → after <ℤ m)

pub next_kept : (plan kept : ℤ → Type 0) (local after next : ℤ) → AreLaterThan plan kept local after → IsNextAfter plan after next → kept next
    → IsNextAfter (both plan kept) local next
next_kept = grind (arith, ints)

pub passed_one : (plan kept : ℤ → Type 0) (local after next : ℤ) → AreLaterThan plan kept local after → IsNextAfter plan after next → (kept next → ⊥)
    → AreLaterThan plan kept local next
passed_one = grind (arith, ints)

-- all of them up to `local` come up to another second
abbrev pub AreUpTo : (ℤ → Type 0) → (ℤ → Type 0) → ℤ → ℤ → Type 0
AreUpTo plan kept local until = (until ≤ℤ local) × ((m : ℤ) → IsWide m → plan m → kept m → m ≤ℤ local → m ≤ℤ until)

pub last_kept : (plan kept : ℤ → Type 0) (local until last : ℤ) → AreUpTo plan kept local until → IsLastUntil plan until last → kept last
    → IsLastUntil (both plan kept) local last
last_kept = grind (arith, ints)

pub passed_back : (plan kept : ℤ → Type 0) (local until last before : ℤ) → AreUpTo plan kept local until → IsLastUntil plan until last → (kept last → ⊥)
    → before ≡ last -ℤ pos 1 → AreUpTo plan kept local before
passed_back plan kept local until last before left own not is = grind (arith, ints)

pub ruleset kept_later = (next_kept, passed_one)
