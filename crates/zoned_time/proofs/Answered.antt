-- Each choice has an answer for each local date-time that the wall clock has one for.
use Rattle.offset_core.specs.{Around.{IsAround}, declared.around.Around.TheVariants.{Ambiguous as Twice, Gap, Single as Once}}
use Rattle.offset_core.specs.declared.local_result.LocalResult.TheVariants.{Ambiguous, None, Single}
use Rattle.offset_core.specs.declared.resolve_error.ResolveError.TheVariants.{OutOfRange}
use Rattle.zoned_time.proofs.Words.{Around, Choice, Err, IsBeforeGap, IsInRange, IsNeverShown, IsTaken, IsUnresolved, IsWallAnswer, IsWide, IsWithinDay}
use Rattle.zoned_time.proofs.Words.{IsZoneSecond, LocalResult, Ok, ResolveError, Result, ShowsByOffset, Taken, Takes, arith, by_lt_z, in_range_or_not, inl, inr}
use Rattle.zoned_time.proofs.Words.{numbers, offset_taken, out_of_range, pos, refl, refused, suc, taken_of, zero, ℕ, ℤ, ◌+ℤ◌, ◌-ℤ◌, ◌<ℤ◌, ◌≡◌, ◌≤ℤ◌, ◌⊎◌}

-- the first second from a start on of which p holds, where p is decided and holds of some later second
module _ (p : ℤ → Type 0) (decide : (u : ℤ) → p u ⊎ (p u → ⊥)) where
  pub first_from : (n : ℕ) (start end : ℤ) → end ≡ start +ℤ pos n → p end
      → (first : ℤ) × (start ≤ℤ first) × (first ≤ℤ end) × p first × ((u : ℤ) → start ≤ℤ u → p u → first ≤ℤ u)
  first_from zero start end e h = (end, omega numbers, omega numbers, h, λ u from k. omega numbers)
  first_from (suc n) start end e h = elim (decide start) [
    | inl here ↦ (start, omega numbers, omega numbers, here, λ u from k. from)
    | inr not ↦ grind (numbers, first_from n (start +ℤ pos 1) end (omega numbers) h)
  ]

less_or_not : (a b : ℤ) → (a <ℤ b) ⊎ (a <ℤ b → ⊥)
less_or_not = grind numbers

-- a local time that a `NaiveDateTime` can show
module _ (off : ℤ → ℤ) (l : ℤ) (day : (u : ℤ) → IsZoneSecond u → IsWithinDay (off u)) (wide : IsWide l) where
  -- one that no clock shows has an offset before it
  gap_has_offset : IsNeverShown (ShowsByOffset off l) → (k : ℤ) × IsBeforeGap off l k
  gap_has_offset never =
      let start : ℤ = l -ℤ pos 86_399 in let end : ℤ = l +ℤ pos 86_400 in let end_day = day end (omega numbers, omega numbers) in
      let found = first_from (λ (u : ℤ). l <ℤ (u +ℤ off u)) (λ u. less_or_not l (u +ℤ off u)) 172_799 start end (omega numbers) (omega numbers) in
      let c = found.0 in (
        off (c -ℤ pos 1),
        record {
          never = never;
          first = c;
          in_zone = ((omega numbers, omega numbers), (omega numbers, omega numbers));
          more = found.3;
          least = λ u inside more. by_lt_z u start (λ early. let within = day u inside in absurd (omega numbers)) (λ late. found.4 u late more);
          before = refl;
        },
      )

  around_shown : (shown : LocalResult ℤ) → IsWallAnswer (ShowsByOffset off l) shown → (a : Around ℤ ℤ) × IsAround (ShowsByOffset off l) (IsBeforeGap off l) a
  around_shown (Single k) wall = (Once k, wall)
  around_shown (Ambiguous a b) wall = (Twice a b, wall)
  around_shown None wall = let before = gap_has_offset wall in (Gap before.0, before.1)

-- an instant in range, by the offset that is taken; or the error
abbrev pub IsDecided : (ℤ → ℤ) → ℤ → Choice → Type 0
IsDecided off l choice = ((k : ℤ) × IsTaken off l choice k × IsInRange (l -ℤ k)) ⊎ ((e : ResolveError) × IsUnresolved off l choice e)

-- what a choice takes for the local time l
module _ (off : ℤ → ℤ) (l : ℤ) (choice : Choice) where
  by_offset : (k : ℤ) → IsTaken off l choice k → IsDecided off l choice
  by_offset k taken = elim (in_range_or_not (l -ℤ k)) [
    | inl inside ↦ inl (k, taken, inside)
    | inr outside ↦ inr (OutOfRange, out_of_range k taken outside refl)
  ]

  by_outcome : (outcome : Result (Taken ℤ ℤ) ResolveError) → Takes (ShowsByOffset off l) (IsBeforeGap off l) choice outcome → IsDecided off l choice
  by_outcome (Ok t) takes = by_offset (offset_taken t) (record { taken = t; takes = takes; offset = refl })
  by_outcome (Err e) takes = inr (e, refused takes)

  pub choice_decided : ((u : ℤ) → IsZoneSecond u → IsWithinDay (off u)) → IsWide l → (shown : LocalResult ℤ) → IsWallAnswer (ShowsByOffset off l) shown
      → IsDecided off l choice
  choice_decided day wide shown wall = let a = around_shown off l day wide shown wall in grind (arith, by_outcome (taken_of choice a.0))
