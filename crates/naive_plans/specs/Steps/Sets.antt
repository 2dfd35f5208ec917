-- What the steps of unions, exceptions and intersections return.
use Rattle.std.specs.Prelude.{◌≡◌, ◌⊎◌, ℤ, ◌<ℤ◌, ◌≤ℤ◌, Bool, true, false, Option, Some, None}
use Rattle.naive_base.specs.{NaiveDateTime.{reading}, declared.datetime.NaiveDateTime.{NaiveDateTime}}

-- the earlier of two local times, or the one that is there
abbrev pub IsEarlierOf : Option NaiveDateTime → Option NaiveDateTime → Option NaiveDateTime → Type 0
IsEarlierOf None b result = result ≡ b
IsEarlierOf (Some a) None result = result ≡ Some a
IsEarlierOf (Some a) (Some b) result = (((reading a).s ≤ℤ (reading b).s) × (result ≡ Some a)) ⊎ (((reading b).s <ℤ (reading a).s) × (result ≡ Some b))

-- the later one
abbrev pub IsLaterOf : Option NaiveDateTime → Option NaiveDateTime → Option NaiveDateTime → Type 0
IsLaterOf None b result = result ≡ b
IsLaterOf (Some a) None result = result ≡ Some a
IsLaterOf (Some a) (Some b) result = (((reading b).s ≤ℤ (reading a).s) × (result ≡ Some a)) ⊎ (((reading a).s <ℤ (reading b).s) × (result ≡ Some b))

-- with `true` the set has l, with `false` it doesn't
abbrev pub IsKept : Bool → (ℤ → Type 0) → ℤ → Type 0
IsKept true set l = set l
IsKept false set l = set l → ⊥

-- the plan has l, and so has the other set, or with `false` it hasn't
abbrev pub IsSelected : (ℤ → Type 0) → Bool → (ℤ → Type 0) → ℤ → Type 0
IsSelected plan wanted set l = plan l × IsKept wanted set l
