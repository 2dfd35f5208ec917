-- What a choice takes, in terms of instants.
use Rattle.offset_core.specs.declared.around.{Around.{Around, TheVariants.{Single}}, Taken.{Taken as Found, TheVariants.{InGap, Shown}}}
use Rattle.offset_core.specs.declared.{resolve_error.ResolveError.{ResolveError}, choice.{FoldChoice.{FoldChoice}, GapChoice.{GapChoice}}}
use Rattle.tz_base.specs.declared.change.Change.{Change}
use Rattle.tz_info.{specs.Around.{AreTypesAround, map_both}, proofs.Words.{IsFirstAtOrAfter, ◌≢◌}}
use Rattle.zoned_ffi.{specs.{Resolved.{IsNoneTaken, IsTakenGapEnd, TakesOf}, declared.resolved.Taken.TheVariants.{InForce}}, proofs.Words.{Choice, IsInRange}}
use Rattle.zoned_ffi.proofs.Words.{IsWrittenOffsetAt, IsReachedAt, IsResolvedAt, IsShownOnce, arith, IsResolvedStamp, IsTakenType, IsTakenAs, IsUtOffset}
use Rattle.zoned_ffi.proofs.Words.{LocalType, Resolved, Shows, TypeAt, Zone, inl, inr, ℤ, +ℤ-neg_ℤ_cancel, ◌-ℤ◌, Err, Ok, Result, policy_of, refl}
use Rattle.zoned_ffi.proofs.Words.{taken_in_range, taken_of, ℕ, ◌≡◌, ◌⊎◌}
use Rattle.zoned_ffi.specs.declared.choice.ChoiceInGap.TheVariants as in_gap
use Rattle.offset_core.specs.declared.choice.Choice as any_choice
use Rattle.offset_core.specs.declared.choice.FoldChoice.TheVariants as folds
use Rattle.offset_core.specs.declared.choice.GapChoice.TheVariants as gaps
use Rattle.offset_core.specs.declared.resolve_error.ResolveError.TheVariants as reasons

pub reached_by : (z : Zone) (local u : ℤ) (t : LocalType) (w : Resolved) → IsInRange local → IsFirstAtOrAfter (TypeAt z) local u t
    → IsResolvedStamp u t.offset w → IsReachedAt z local w
reached_by z local u t w in_range first (inl (inside, is)) = IsReachedAt.reached u t in_range first inside is
reached_by z local u t w in_range first (inr (outside, is)) = IsReachedAt.reached_outside u t in_range first outside is

-- what is taken, with the value or the gap replaced by its image
abbrev pub images : {T U G H : Type 0} → (T → U) → (G → H) → Result (Found T G) ResolveError → Result (Found U H) ResolveError
images f g (Ok (Shown one)) = Ok (Shown (f one))
images f g (Ok (InGap gap)) = Ok (InGap (g gap))
images f g (Err e) = Err e

-- of the images the image is taken
taken_images : {T U G H : Type 0} (f : T → U) (g : G → H) (gap : GapChoice) (fold : FoldChoice) (a : Around T G)
    → taken_of (record { gap = gap; fold = fold }) (map_both f g a) ≡ images f g (taken_of (record { gap = gap; fold = fold }) a)
taken_images f g gap fold a = grind arith

-- what a choice takes for a local time of a zone
module _ (z : Zone) (local : ℤ) (choice : Choice) where
  -- the instant by the offset that is taken, and the offset in force there
  pub resolved_by : (t : LocalType) (offset : ℤ) (w : Resolved) → IsInRange local → IsTakenType z local choice t
      → IsWrittenOffsetAt z (local -ℤ t.offset) offset → IsResolvedStamp (local -ℤ t.offset) offset w → IsResolvedAt z choice local w
  resolved_by t offset w in_range taken there (inl (inside, is)) = IsResolvedAt.found t offset in_range taken inside there is
  resolved_by t offset w in_range taken there (inr (outside, is)) = IsResolvedAt.taken_outside t in_range taken outside is

  -- the gap's end
  pub ended_by : (at : ℤ) (after : LocalType) (w : Resolved) → IsInRange local → IsTakenGapEnd z local choice at after
      → IsResolvedStamp at after.offset w → IsResolvedAt z choice local w
  ended_by at after w in_range end (inl (inside, is)) = IsResolvedAt.ended at after in_range end inside is
  ended_by at after w in_range end (inr (outside, is)) = IsResolvedAt.ended_outside at after in_range end outside is

  -- a type that shows the local time is in force at that time less its offset
  pub in_force : (u : ℤ) (t : LocalType) (offset : ℤ) → Shows (TypeAt z) local u t → IsTakenType z local choice t
      → offset ≡ t.offset → IsUtOffset t.offset → IsTakenAs z local choice (InForce offset)
  in_force u t offset shows taken same bound = grind (arith, +ℤ-neg_ℤ_cancel u t.offset)

  -- what is taken of the answer around the local time
  pub taken_as : {T G : Type 0} (f : T → LocalType) (g : G → Change) (a : Around T G) (p : any_choice.Choice)
      (r o : Result (Found T G) ResolveError)
      → AreTypesAround (TypeAt z) local (map_both f g a) → p ≡ policy_of choice → r ≡ taken_of p a → r ≡ o → TakesOf z local choice (images f g o)
  taken_as f g a p r o right policy found is =
      record { around = map_both f g a; right = right; taken = cc (taken_images f g p.gap p.fold a) }

  -- a local time that one second shows is taken by every choice
  pub taken_once : (t : LocalType) → IsShownOnce (Shows (TypeAt z) local) t → IsTakenType z local choice t
  taken_once t once = IsTakenType.shown (record { around = Single t; right = once; taken = refl })

  pub none_is : (n : ℕ) → IsNoneTaken z local choice n → (n ≡ 21) ⊎ (n ≡ 22)
  none_is n (e, takes, is) = grind (arith, taken_in_range (policy_of choice) takes.around)

-- a choice that takes a gap, and neither its end nor the offset after it, shifts forward
none_by_refusal : (f : FoldChoice) (a : Around LocalType Change) (change : Change) → taken_of (record { gap = gaps.Refuse; fold = f }) a ≡ Ok (InGap change) → ⊥
none_by_refusal f a change taken = grind arith

pub shifts_forward : (choice : Choice) (a : Around LocalType Change) (change : Change) → taken_of (policy_of choice) a ≡ Ok (InGap change)
    → choice.gap ≢ in_gap.End → choice.gap ≢ in_gap.ShiftBackward → choice.gap ≡ in_gap.ShiftForward
shifts_forward choice a change taken not_end not_back = grind (arith, none_by_refusal choice.fold a change)

pub gap_is : (a : Around LocalType Change) (e : ResolveError) → taken_of (record { gap = gaps.Refuse; fold = folds.Latest }) a ≡ Err e → e ≡ reasons.Gap
gap_is a e h = grind arith

pub fold_is : (a : Around LocalType Change) (e : ResolveError) → taken_of (record { gap = gaps.ShiftForward; fold = folds.Refuse }) a ≡ Err e → e ≡ reasons.Fold
fold_is a e h = grind arith
