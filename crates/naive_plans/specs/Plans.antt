-- Plans: sets of local times, in whole seconds. Only local times that a `NaiveDateTime` can show count.
use Rattle.std.specs.Prelude.{ℤ, ◌≤ℤ◌, ◌<ℤ◌}
use Rattle.naive_base.specs.Range.{IsWide}

-- l is the plan's first local time after `local`
pub record IsNextAfter (plan : ℤ → Type 0) (local l : ℤ) : Type 0 where
  pub planned : plan l
  pub after : local <ℤ l
  pub least : (m : ℤ) → IsWide m → plan m → local <ℤ m → l ≤ℤ m

-- the plan has no local time after `local`
abbrev pub HasNoneAfter : (ℤ → Type 0) → ℤ → Type 0
HasNoneAfter plan local = (m : ℤ) → IsWide m → plan m → local <ℤ m → ⊥

-- l is the plan's last local time at or before `local`
pub record IsLastUntil (plan : ℤ → Type 0) (local l : ℤ) : Type 0 where
  pub planned : plan l
  pub not_after : l ≤ℤ local
  pub greatest : (m : ℤ) → IsWide m → plan m → m ≤ℤ local → m ≤ℤ l

-- the plan has no local time at or before `local`
abbrev pub HasNoneUntil : (ℤ → Type 0) → ℤ → Type 0
HasNoneUntil plan local = (m : ℤ) → IsWide m → plan m → m ≤ℤ local → ⊥
