-- Places in steps of the local clock.
use Rattle.std.specs.Prelude.{ℕ, ℤ, pos, neg_ℤ, ◌+ℤ◌, ◌-ℤ◌, ◌≤ℤ◌, ◌<ℤ◌}

-- a step of days begins `before` days before that day, and the next one starts after `after` more days
pub record IsPlace (on : ℤ → Type 0) (day : ℤ) (before after : ℕ) : Type 0 where
  pub first : on (day -ℤ pos before)
  pub next : on (day +ℤ pos after +ℤ pos 1)
  pub none_between : (d : ℤ) → on d → (day -ℤ pos before) <ℤ d → (day +ℤ pos after) <ℤ d

-- the days and the seconds of some years before and after the range
abbrev pub IsNearDay : ℤ → Type 0
IsNearDay day = (neg_ℤ (pos 200_000_000) ≤ℤ day) × (day ≤ℤ pos 200_000_000)

abbrev pub IsNear : ℤ → Type 0
IsNear l = (neg_ℤ (pos 8_640_000_086_400) ≤ℤ l) × (l ≤ℤ pos 8_640_000_086_400)
