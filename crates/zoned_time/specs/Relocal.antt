-- Local date-times converted to UTC, and the only instant that shows one.
use Rattle.std.specs.Prelude.{◌≡◌, ℤ, SomeIff, Option, Some, None}
use Rattle.offset_core.specs.{declared.local_result.LocalResult.{LocalResult}, declared.local_result.LocalResult.TheVariants.{Single, Ambiguous, None}}
use Rattle.offset_core.specs.LocalResult.{IsAndThen, single_of}
use Rattle.naive_base.specs.{Range.{IsInRange}, Reading.{Reading, behind}}
use Rattle.zoned_time.specs.{Zone.{Meaning, Law, AreOffsetsFor}, Zoned.{Zoned}}

-- the instant at which a clock with this offset shows l
abbrev pub instant_of : {O : Type 0} → (O → ℤ) → Reading → O → Zoned O
instant_of seconds l offset = record { utc = behind l (seconds offset); offset = offset }

-- the date-time in UTC of a local date-time at an offset is in range
abbrev pub HasInstant : {O : Type 0} → (O → ℤ) → Reading → O → Type 0
HasInstant seconds l offset = IsInRange (behind l (seconds offset)).s

-- the instant at each offset; none at all if one of them is out of range
abbrev pub AreInstantsOf : {O : Type 0} → (O → ℤ) → Reading → LocalResult O → LocalResult (Zoned O) → Type 0
AreInstantsOf seconds l offsets answer =
    IsAndThen (λ _ o d _. SomeIff d (HasInstant seconds l o) (instant_of seconds l o)) (tt {0}) offsets answer

-- the instants at which the clocks of a zone show l: those of the offsets that it gives for l
pub record IsRelocal {O : Type 0} {m : Meaning O} (law : Law m) (l : Reading) (answer : LocalResult (Zoned O)) : Type 0 where
  pub offsets : LocalResult O
  pub wall : AreOffsetsFor law l.s offsets
  pub instants : AreInstantsOf m.seconds l offsets answer

-- the only value v if p holds, and else none
abbrev pub SingleIff : {T : Type 0} → LocalResult T → Type 0 → T → Type 0
SingleIff (Single a) p v = p × (a ≡ v)
SingleIff (Ambiguous a b) p v = ⊥
SingleIff None p v = p → ⊥

-- the only instant at which the clocks of a zone show l
pub record IsOnly {O : Type 0} {m : Meaning O} (law : Law m) (l : Reading) (answer : Option (Zoned O)) : Type 0 where
  pub instants : LocalResult (Zoned O)
  pub relocal : IsRelocal law l instants
  pub only : answer ≡ single_of instants

-- the only instant of a local date-time, if there is such a date-time
abbrev pub IsOnlyWhere : {O : Type 0} {m : Meaning O} → Law m → Option Reading → Option (Zoned O) → Type 0
IsOnlyWhere law (Some l) answer = IsOnly law l answer
IsOnlyWhere law None answer = answer ≡ None
