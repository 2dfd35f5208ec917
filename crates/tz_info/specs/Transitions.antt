-- Transitions (RFC 8536 section 3.2, "transition times" and "transition types").
use Rattle.std.specs.Prelude.{ℕ, ◌<◌, List, All, AllPairs, filter, ℤ, ◌<ℤ◌, int_le}
use Rattle.tz_base.specs.declared.transition.Transition.{Transition}

-- each comes later than those before it
abbrev pub AreRising : List Transition → Type 0
AreRising transitions = AllPairs (λ a b. a.unix_leap_time <ℤ b.unix_leap_time) transitions

-- each refers to one of that many types
abbrev pub NameTypes : ℕ → List Transition → Type 0
NameTypes types transitions = All (λ t. t.type_index < types) transitions

-- the transitions that a zone with that many types may have
pub record AreTransitions (types : ℕ) (transitions : List Transition) : Type 0 where
  pub indexes : NameTypes types transitions
  pub rising : AreRising transitions

-- those at or before the leap time x
abbrev pub passed : List Transition → ℤ → List Transition
passed transitions x = filter (λ t. int_le t.unix_leap_time x) transitions
