-- What a `LocalResult` holds, and what comes of asking a function for its values.
use Rattle.std.specs.{Prelude.{◌≡◌, ⊤, ◌++◌, pos, Option, Some as some, None as none}, Hash.{HashWrites, isize}}
use Rattle.offset_core.specs.declared.local_result.LocalResult.{LocalResult, TheVariants.{Single, Ambiguous, None}}

-- the only value
abbrev pub single_of : {T : Type 0} → LocalResult T → Option T
single_of (Single value) = some value
single_of (Ambiguous first last) = none
single_of None = none

-- the first value
abbrev pub earliest_of : {T : Type 0} → LocalResult T → Option T
earliest_of (Single value) = some value
earliest_of (Ambiguous first last) = some first
earliest_of None = none

-- the last value
abbrev pub latest_of : {T : Type 0} → LocalResult T → Option T
latest_of (Single value) = some value
latest_of (Ambiguous first last) = some last
latest_of None = none

-- answers of one kind, whose values are related in turn
abbrev pub AreAlike : {T : Type 0} → (T → T → Type 0) → LocalResult T → LocalResult T → Type 0
AreAlike R (Single a) (Single b) = R a b
AreAlike R (Ambiguous a b) (Ambiguous c d) = R a c × R b d
AreAlike R None None = ⊤
AreAlike R (Single a) (Ambiguous c d) = ⊥
AreAlike R (Single a) None = ⊥
AreAlike R (Ambiguous a b) (Single c) = ⊥
AreAlike R (Ambiguous a b) None = ⊥
AreAlike R None (Single c) = ⊥
AreAlike R None (Ambiguous c d) = ⊥

-- each value of the answer has the property
abbrev pub HoldsOfEach : {T : Type 0} → (T → Type 0) → LocalResult T → Type 0
HoldsOfEach P (Single value) = P value
HoldsOfEach P (Ambiguous first last) = P first × P last
HoldsOfEach P None = ⊤

-- what a hash looks at: the place of the variant among the three, and then each value in turn
abbrev pub fed_of : {T : Type 0} → (T → HashWrites) → LocalResult T → HashWrites
fed_of fed (Single value) = isize (pos 0) ++ fed value
fed_of fed (Ambiguous first last) = isize (pos 1) ++ (fed first ++ fed last)
fed_of fed None = isize (pos 2)

-- the answer with each value replaced by its image
abbrev pub map_of : {T U : Type 0} → (T → U) → LocalResult T → LocalResult U
map_of f (Single value) = Single (f value)
map_of f (Ambiguous first last) = Ambiguous (f first) (f last)
map_of f None = None

-- the answer with each value replaced by what one call of f gave for it, the first value first
abbrev pub IsMapped : {F T U : Type 0} → (F → T → U → F → Type 0) → F
    → LocalResult T → LocalResult U → Type 0
IsMapped {F} {T} {U} step f (Single value) new =
    (answer : U) × (f' : F) × step f value answer f' × (new ≡ Single answer)
IsMapped {F} {T} {U} step f (Ambiguous first last) new =
    (one : U) × (other : U) × (f' : F) × (f'' : F) × step f first one f' × step f' last other f''
    × (new ≡ Ambiguous one other)
IsMapped step f None new = new ≡ None

-- the values, if none of them is missing
abbrev pub all_or_none : {T : Type 0} → LocalResult (Option T) → LocalResult T
all_or_none (Single (some value)) = Single value
all_or_none (Single none) = None
all_or_none (Ambiguous (some first) (some last)) = Ambiguous first last
all_or_none (Ambiguous (some first) none) = None
all_or_none (Ambiguous none last) = None
all_or_none None = None

-- f was asked for each value, the first one first, and its answers are kept if none of them is missing
pub record IsAndThen {F T U : Type 0} (step : F → T → Option U → F → Type 0) (f : F)
    (old : LocalResult T) (new : LocalResult U) : Type 0 where
  pub answers : LocalResult (Option U)
  pub asked : IsMapped step f old answers
  pub kept : new ≡ all_or_none answers

-- f may be called with each value, the first one first
pub record IsCallableOnEach {F T U : Type 0} (pre : F → T → Type 0) (step : F → T → U → F → Type 0) (f : F)
    (values : LocalResult T) : Type 0 where
  pub single : (value : T) → values ≡ Single value → pre f value
  pub first : (first last : T) → values ≡ Ambiguous first last → pre f first
  pub last : (first last : T) (answer : U) (f' : F) → values ≡ Ambiguous first last
      → step f first answer f' → pre f' last
