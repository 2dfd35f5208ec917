-- Zones whose clocks are set once, or never.
use Rattle.std.specs.Prelude.{◌≡◌, ℤ, ◌≤ℤ◌, ◌<ℤ◌}
use Rattle.zoned_time.specs.Zone.{Law, law_by_seconds, meaning_by_seconds}

-- before the second `at` clocks are k seconds ahead of UTC, and from then on m seconds
pub record AreSetAt (off : ℤ → ℤ) (at k m : ℤ) : Type 0 where
  pub before : (u : ℤ) → u <ℤ at → off u ≡ k
  pub from : (u : ℤ) → at ≤ℤ u → off u ≡ m

-- they are always k seconds ahead
abbrev pub IsAlways : (ℤ → ℤ) → ℤ → Type 0
IsAlways off k = (u : ℤ) → off u ≡ k

-- the zone with those offsets, which are nothing but seconds
abbrev pub plain_law : (off : ℤ → ℤ) → Law (meaning_by_seconds (λ (k : ℤ). k) (λ _ u. off u))
plain_law off = law_by_seconds off
