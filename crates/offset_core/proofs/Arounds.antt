-- What shows a local time, kind by kind, and what a choice takes of it.
use Rattle.offset_core.specs.{Around.{HoldsOfEachAround, IsAround, Takes, taken_of}, declared.around.{Taken.{Taken}, Around.{Around}}}
use Rattle.offset_core.specs.declared.{around.{Taken.TheVariants.{InGap, Shown}, Around.TheVariants.{Ambiguous, Gap, Single}}, choice.Choice.{Choice}}
use Rattle.offset_core.specs.declared.resolve_error.ResolveError.{ResolveError}
use Rattle.offset_core.proofs.{Words.{Err, IsNeverShown, MatchResult, Ok, Result, arith, ℤ, ⊤, ◌≡◌}, WallAnswers.{HasOneValue}}
use Rattle.offset_core.specs.declared.resolve_error.ResolveError.TheVariants as reasons

-- a local time has one answer around it, if a second has one value, and the local time one gap
pub one_around : {T G : Type 0} (shows : ℤ → T → Type 0) (skips : G → Type 0) → HasOneValue shows → ((g : G) → skips g → IsNeverShown shows)
    → ((g h : G) → skips g → skips h → g ≡ h) → (x y : Around T G) → IsAround shows skips x → IsAround shows skips y → x ≡ y
one_around shows skips value never one x y p q = grind arith

-- so a choice takes one thing of it
pub one_outcome : {T G : Type 0} (shows : ℤ → T → Type 0) (skips : G → Type 0) → HasOneValue shows → ((g : G) → skips g → IsNeverShown shows)
    → ((g h : G) → skips g → skips h → g ≡ h) → (choice : Choice) (a b : Result (Taken T G) ResolveError)
    → Takes shows skips choice a → Takes shows skips choice b → a ≡ b
one_outcome shows skips value never one choice a b p q = grind arith

-- what holds of each value holds of the one that is taken
abbrev pub HoldsOfTaken : {T G : Type 0} → (T → Type 0) → (G → Type 0) → Taken T G → Type 0
HoldsOfTaken P Q (Shown a) = P a
HoldsOfTaken P Q (InGap gap) = Q gap

pub taken_holds : {T G : Type 0} (P : T → Type 0) (Q : G → Type 0) (choice : Choice) (a : Around T G) → HoldsOfEachAround P Q a
    → MatchResult (taken_of choice a) (HoldsOfTaken P Q) (λ _. ⊤)
taken_holds P Q choice a h = grind arith

-- a value that is taken is one of a second that shows the local time, and a gap that is taken skips it
pub taken_right : {T G : Type 0} (shows : ℤ → T → Type 0) (skips : G → Type 0) (choice : Choice) (t : Taken T G) → Takes shows skips choice (Ok t)
    → HoldsOfTaken (λ t. (u : ℤ) × shows u t) skips t
taken_right shows skips choice t takes = grind arith

-- nothing is taken for another reason than a gap or a fold
pub taken_in_range : {T G : Type 0} (choice : Choice) (a : Around T G) → taken_of choice a ≡ Err reasons.OutOfRange → ⊥
taken_in_range choice a e = grind arith

-- each value replaced by its image
abbrev pub map_around : {T G U H : Type 0} → (T → U) → (G → H) → Around T G → Around U H
map_around f g (Single a) = Single (f a)
map_around f g (Ambiguous a b) = Ambiguous (f a) (f b)
map_around f g (Gap gap) = Gap (g gap)

abbrev pub map_taken : {T G U H : Type 0} → (T → U) → (G → H) → Taken T G → Taken U H
map_taken f g (Shown a) = Shown (f a)
map_taken f g (InGap gap) = InGap (g gap)

abbrev pub map_outcome : {T G U H : Type 0} → (T → U) → (G → H) → Result (Taken T G) ResolveError → Result (Taken U H) ResolveError
map_outcome f g (Ok taken) = Ok (map_taken f g taken)
map_outcome f g (Err e) = Err e

pub taken_of_images : {T G U H : Type 0} (f : T → U) (g : G → H) (choice : Choice) (a : Around T G)
    → taken_of choice (map_around f g a) ≡ map_outcome f g (taken_of choice a)
taken_of_images f g choice a = grind arith
