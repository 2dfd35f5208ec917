-- The designations of a TZif file (RFC 8536 section 3.2): texts that each end before a 0 byte, and the place at which the text of a type begins.
use Rattle.std.specs.Prelude.{ℕ, ◌≡◌, ◌≢◌, ◌<◌, ◌≤◌, List, [], ◌∷◌, ◌++◌, length, All, Option, Some, None}
use Rattle.tz_base.specs.LocalTypes.{LocalType}

abbrev pub HasNoZero : List ℕ → Type 0
HasNoZero [] = Unit {0}
HasNoZero (b ∷ bs) = (b ≢ 0) × HasNoZero bs

-- the text that begins at that place of the designations and ends before the next 0 byte
pub record StandsAt (designations : List ℕ) (place : ℕ) (text : List ℕ) : Type 0 where
  pub before : List ℕ
  pub after : List ℕ
  pub whole : designations ≡ before ++ (text ++ (0 ∷ after))
  pub at : length before ≡ place
  pub ends : HasNoZero text

-- a type without a name has the empty text
abbrev pub name_or_none : Option (List ℕ) → List ℕ
name_or_none (Some name) = name
name_or_none None = []

abbrev pub name_of : LocalType → List ℕ
name_of t = name_or_none t.name

-- the places that a byte can name
abbrev pub place_limit : ℕ
place_limit = 256

-- the type's text is in the designations, at a place that a byte can name
pub record IsNamedIn (designations : List ℕ) (t : LocalType) : Type 0 where
  pub place : ℕ
  pub stands : StandsAt designations place (name_of t)
  pub named : place < place_limit

-- the designations have the text of each type
abbrev pub AreNamesIn : List ℕ → List LocalType → Type 0
AreNamesIn designations types = All (IsNamedIn designations) types

-- they have it, and none that have it are shorter
pub record AreShortest (designations : List ℕ) (types : List LocalType) : Type 0 where
  pub names : AreNamesIn designations types
  pub shortest : (other : List ℕ) → AreNamesIn other types → length designations ≤ length other
