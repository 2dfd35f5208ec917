-- Lists of local times, and plans made of others.
use Rattle.std.specs.Prelude.{◌≡◌, ◌⊎◌, ℤ, List, Contains}
use Rattle.naive_base.specs.{NaiveDateTime.{reading}, declared.datetime.NaiveDateTime.{NaiveDateTime}}

-- the list has a local time in that second
pub record HasLocalTime (list : List NaiveDateTime) (l : ℤ) : Type 0 where
  pub local : NaiveDateTime
  pub listed : Contains list local
  pub at : (reading local).s ≡ l

-- one of two plans has l
abbrev pub IsInEither : (ℤ → Type 0) → (ℤ → Type 0) → ℤ → Type 0
IsInEither first second l = first l ⊎ second l

-- both have it
abbrev pub IsInBoth : (ℤ → Type 0) → (ℤ → Type 0) → ℤ → Type 0
IsInBoth first second l = first l × second l

-- the first has it, and the second doesn't
abbrev pub IsInFirstOnly : (ℤ → Type 0) → (ℤ → Type 0) → ℤ → Type 0
IsInFirstOnly first second l = first l × (second l → ⊥)
