-- What shows a local time, or the gap that it lies in, and what a choice takes of it: for values of any type, any relation `shows`
-- between seconds and values (as in WallAnswer), and any property `skips`, which holds of the gap that the local time lies in.
use Rattle.std.specs.Prelude.{◌≡◌, ℤ, Result, Ok, Err}
use Rattle.offset_core.specs.{WallAnswer.{IsShownOnce, IsShownBetween}, declared.around.{Around.{Around, TheVariants.{Single, Ambiguous, Gap}}, Taken.{Taken}}}
use Rattle.offset_core.specs.declared.{around.Taken.TheVariants.{Shown, InGap}, choice.{Choice.{Choice}, FoldChoice.{FoldChoice}, GapChoice.{GapChoice}}}
use Rattle.offset_core.specs.declared.resolve_error.ResolveError.{ResolveError}
use Rattle.offset_core.specs.declared.choice.FoldChoice.TheVariants as folds
use Rattle.offset_core.specs.declared.choice.GapChoice.TheVariants as gaps
use Rattle.offset_core.specs.declared.resolve_error.ResolveError.TheVariants as reasons

-- exactly one second shows the local time, or several do, or it lies in that gap
abbrev pub IsAround : {T G : Type 0} → (ℤ → T → Type 0) → (G → Type 0) → Around T G → Type 0
IsAround shows skips (Single a) = IsShownOnce shows a
IsAround shows skips (Ambiguous a b) = IsShownBetween shows a b
IsAround shows skips (Gap g) = skips g

-- what is taken in a fold, of the values at its first and at its last instant
abbrev pub taken_in_fold : {T G : Type 0} → FoldChoice → T → T → Result (Taken T G) ResolveError
taken_in_fold folds.Refuse first last = Err reasons.Fold
taken_in_fold folds.Earliest first last = Ok (Shown first)
taken_in_fold folds.Latest first last = Ok (Shown last)

-- and what in a gap
abbrev pub taken_in_gap : {T G : Type 0} → GapChoice → G → Result (Taken T G) ResolveError
taken_in_gap gaps.Refuse gap = Err reasons.Gap
taken_in_gap gaps.ShiftForward gap = Ok (InGap gap)

-- what a choice takes of what shows a local time, or why it takes nothing
abbrev pub taken_of : {T G : Type 0} → Choice → Around T G → Result (Taken T G) ResolveError
taken_of choice (Single only) = Ok (Shown only)
taken_of choice (Ambiguous first last) = taken_in_fold choice.fold first last
taken_of choice (Gap gap) = taken_in_gap choice.gap gap

-- that is what it takes of the local time
pub record Takes {T G : Type 0} (shows : ℤ → T → Type 0) (skips : G → Type 0) (choice : Choice) (outcome : Result (Taken T G) ResolveError) : Type 0 where
  pub around : Around T G
  pub right : IsAround shows skips around
  pub taken : taken_of choice around ≡ outcome

-- values of one kind, related in turn
abbrev pub AreAlikeAround : {T G : Type 0} → (T → T → Type 0) → (G → G → Type 0) → Around T G → Around T G → Type 0
AreAlikeAround R S (Single a) (Single b) = R a b
AreAlikeAround R S (Ambiguous a b) (Ambiguous c d) = R a c × R b d
AreAlikeAround R S (Gap a) (Gap b) = S a b
AreAlikeAround R S (Single a) (Ambiguous c d) = ⊥
AreAlikeAround R S (Single a) (Gap b) = ⊥
AreAlikeAround R S (Ambiguous a b) (Single c) = ⊥
AreAlikeAround R S (Ambiguous a b) (Gap c) = ⊥
AreAlikeAround R S (Gap a) (Single b) = ⊥
AreAlikeAround R S (Gap a) (Ambiguous c d) = ⊥

-- each value of the answer has the one property, or its gap the other
abbrev pub HoldsOfEachAround : {T G : Type 0} → (T → Type 0) → (G → Type 0) → Around T G → Type 0
HoldsOfEachAround P Q (Single a) = P a
HoldsOfEachAround P Q (Ambiguous a b) = P a × P b
HoldsOfEachAround P Q (Gap gap) = Q gap
