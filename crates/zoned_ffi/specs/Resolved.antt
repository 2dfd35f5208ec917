-- The instants that a choice takes for local times that clocks show never, once or several times.
use Rattle.std.specs.{Prelude.{ℕ, ℤ, ◌≡◌, ◌-ℤ◌, pos, List, Result, Ok, Err}, List.{AllZip}}
use Rattle.naive_base.specs.Range.{IsInRange}
use Rattle.offset_core.specs.{Around.{Takes}, ResolveNumbers.{resolve_error_number}, declared.around.Taken.{Taken, TheVariants.{Shown, InGap}}}
use Rattle.offset_core.specs.declared.{choice.FoldChoice.{FoldChoice}, resolve_error.ResolveError.{ResolveError}}
use Rattle.tz_base.specs.{LocalTypes.{LocalType}, declared.change.Change.{Change}}
use Rattle.tz_info.specs.{Around.{Skips}, ShownSeconds.{IsFirstAtOrAfter}, WallClocks.{Shows}, Zones.{Zone, TypeAt}}
use Rattle.zoned_ffi.specs.{WrittenTypes.{IsWrittenOffsetAt}, declared.{choice.{Choice.{Choice}, ChoiceInGap.{ChoiceInGap}}, resolved.Resolved.{Resolved}}}
use Rattle.offset_core.specs.declared.choice.Choice as any_choice
use Rattle.offset_core.specs.declared.choice.FoldChoice.TheVariants as folds
use Rattle.offset_core.specs.declared.choice.GapChoice as any_gap
use Rattle.offset_core.specs.declared.choice.GapChoice.TheVariants as any_gaps
use Rattle.zoned_ffi.specs.declared.choice.ChoiceInGap.TheVariants as gaps

abbrev pub gap_number : ChoiceInGap → ℕ
gap_number gaps.Refuse = 0
gap_number gaps.ShiftForward = 1
gap_number gaps.End = 2
gap_number gaps.ShiftBackward = 3

abbrev pub fold_number : FoldChoice → ℕ
fold_number folds.Refuse = 0
fold_number folds.Earliest = 1
fold_number folds.Latest = 2

-- the choice of those numbers
abbrev pub IsChoiceOf : ℕ → ℕ → Choice → Type 0
IsChoiceOf gap fold choice = (gap ≡ gap_number choice.gap) × (fold ≡ fold_number choice.fold)

-- the numbers are those of a choice
abbrev pub IsChoice : ℕ → ℕ → Type 0
IsChoice gap fold = (choice : Choice) × IsChoiceOf gap fold choice

-- the choice between taking and refusing: a gap is refused, or some instant is taken for it
abbrev pub gap_policy : ChoiceInGap → any_gap.GapChoice
gap_policy gaps.Refuse = any_gaps.Refuse
gap_policy gaps.ShiftForward = any_gaps.ShiftForward
gap_policy gaps.End = any_gaps.ShiftForward
gap_policy gaps.ShiftBackward = any_gaps.ShiftForward

abbrev pub policy_of : Choice → any_choice.Choice
policy_of choice = record { gap = gap_policy choice.gap; fold = choice.fold }

-- the choice takes that of the local time, or nothing for that reason
abbrev pub TakesOf : Zone → ℤ → Choice → Result (Taken LocalType Change) ResolveError → Type 0
TakesOf z local choice = Takes (Shows (TypeAt z) local) (Skips (TypeAt z) local) (policy_of choice)

-- the type by whose offset a choice takes the local time for an instant: that of the only second which shows it; in a fold that
-- of the first, or of the last; in a gap the one before it, or, if the choice shifts backward, the one after it
pub data IsTakenType (z : Zone) (local : ℤ) (choice : Choice) (t : LocalType) : Type 0 where
  shown : TakesOf z local choice (Ok (Shown t)) → IsTakenType z local choice t
  shifted_forward : (change : Change) → TakesOf z local choice (Ok (InGap change)) → choice.gap ≡ gaps.ShiftForward → t ≡ change.before
      → IsTakenType z local choice t
  shifted_backward : (change : Change) → TakesOf z local choice (Ok (InGap change)) → choice.gap ≡ gaps.ShiftBackward → t ≡ change.after
      → IsTakenType z local choice t

-- the choice takes the second `at`, at which the gap that the local time lies in ends, and `after` is in force from then on
pub record IsTakenGapEnd (z : Zone) (local : ℤ) (choice : Choice) (at : ℤ) (after : LocalType) : Type 0 where
  pub before : LocalType
  pub takes : TakesOf z local choice (Ok (InGap (record { at = at; before = before; after = after })))
  pub end : choice.gap ≡ gaps.End

-- why the choice takes none, by its number: a gap, or a fold, is refused
abbrev pub IsNoneTaken : Zone → ℤ → Choice → ℕ → Type 0
IsNoneTaken z local choice n = (e : ResolveError) × TakesOf z local choice (Err e) × (n ≡ resolve_error_number e)

-- what is written if there is no instant: the number that says why
abbrev pub unresolved : ℕ → Resolved
unresolved n = record { number = n; offset = pos 0; instant = pos 0 }

-- What is written of a local time. The instant is the local time less the offset that is taken, or the gap's end, and the offset is the
-- one in force there: mostly the one after the gap if the choice shifts forward, and the one before it if it shifts backward. The number is
-- 23 if the local time or the instant is outside the calendar's range.
pub data IsResolvedAt (z : Zone) (choice : Choice) (local : ℤ) (w : Resolved) : Type 0 where
  found : (t : LocalType) (offset : ℤ) → IsInRange local → IsTakenType z local choice t → IsInRange (local -ℤ t.offset)
      → IsWrittenOffsetAt z (local -ℤ t.offset) offset
      → w ≡ record { number = 0; offset = offset; instant = local -ℤ t.offset } → IsResolvedAt z choice local w
  ended : (at : ℤ) (after : LocalType) → IsInRange local → IsTakenGapEnd z local choice at after → IsInRange at
      → w ≡ record { number = 0; offset = after.offset; instant = at } → IsResolvedAt z choice local w
  none : (n : ℕ) → IsInRange local → IsNoneTaken z local choice n → w ≡ unresolved n → IsResolvedAt z choice local w
  outside : ¬ (IsInRange local) → w ≡ unresolved 23 → IsResolvedAt z choice local w
  taken_outside : (t : LocalType) → IsInRange local → IsTakenType z local choice t → ¬ (IsInRange (local -ℤ t.offset)) → w ≡ unresolved 23
      → IsResolvedAt z choice local w
  ended_outside : (at : ℤ) (after : LocalType) → IsInRange local → IsTakenGapEnd z local choice at after → ¬ (IsInRange at) → w ≡ unresolved 23
      → IsResolvedAt z choice local w

-- one answer for each local time, in the same order
abbrev pub AreResolved : Zone → Choice → List ℤ → List Resolved → Type 0
AreResolved z choice locals resolved = AllZip (IsResolvedAt z choice) locals resolved

-- What is written of the first second at which a clock shows a local time or a later one: that second, and the offset in force then.
-- The number is 23 if the local time or that second is outside the calendar's range.
pub data IsReachedAt (z : Zone) (local : ℤ) (w : Resolved) : Type 0 where
  reached : (u : ℤ) (t : LocalType) → IsInRange local → IsFirstAtOrAfter (TypeAt z) local u t → IsInRange u
      → w ≡ record { number = 0; offset = t.offset; instant = u } → IsReachedAt z local w
  unreached : ¬ (IsInRange local) → w ≡ unresolved 23 → IsReachedAt z local w
  reached_outside : (u : ℤ) (t : LocalType) → IsInRange local → IsFirstAtOrAfter (TypeAt z) local u t → ¬ (IsInRange u) → w ≡ unresolved 23
      → IsReachedAt z local w

-- one for each local time, in their order
abbrev pub AreReached : Zone → List ℤ → List Resolved → Type 0
AreReached z locals firsts = AllZip (IsReachedAt z) locals firsts
