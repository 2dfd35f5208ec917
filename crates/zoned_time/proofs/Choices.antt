-- What a choice takes for a wall clock.
use Rattle.offset_core.specs.{declared.around.Taken.TheVariants.{Shown}}
use Rattle.offset_core.specs.declared.resolve_error.ResolveError.TheVariants.{OutOfRange}
use Rattle.std.specs.Prelude.{⊤}
use Rattle.zoned_time.proofs.Words.{AreOffsetsAround, Around, Choice, Err, HasInstant, HoldsOfEachAround, HoldsOfTaken, IsAt, IsBeforeGap, IsInRange}
use Rattle.zoned_time.proofs.Words.{IsResolved, IsTaken, IsUnresolved, Law, MatchResult, Meaning, Ok, Reading, ResolveError, Result, SameLaw, ShowsByOffset}
use Rattle.zoned_time.proofs.Words.{Taken, Takes, Zoned, arith, behind, home_law, instant_of, map_around, map_outcome, map_taken, numbers, offset_taken}
use Rattle.zoned_time.proofs.Words.{out_of_range, subst, taken_holds, taken_of, taken_of_images, ℤ, ◌-ℤ◌, ◌≡◌}
use Rattle.zoned_time.proofs.Relocals.{at_shown}

-- an offset at which clocks show the local time, in force then
abbrev IsShownBy : {O : Type 0} {m : Meaning O} → Law m → ℤ → O → Type 0
IsShownBy {m = m} law l o = (u : ℤ) × ShowsByOffset law.off l u (m.seconds o) × law.in_force (l -ℤ m.seconds o) o × SameLaw (home_law m o) law

each_shown_by : {O : Type 0} {m : Meaning O} (law : Law m) (l : ℤ) (a : Around O O) → AreOffsetsAround law l a → HoldsOfEachAround (IsShownBy law l) (λ _. ⊤) a
each_shown_by = grind arith

-- a choice for the local time l, and the offsets around that
module _ {O : Type 0} {m : Meaning O} (law : Law m) (l : ℤ) (choice : Choice) (a : Around O O) (around : AreOffsetsAround law l a) where
  takes_seconds : Takes (ShowsByOffset law.off l) (IsBeforeGap law.off l) choice (map_outcome m.seconds m.seconds (taken_of choice a))
  takes_seconds = record { around = map_around m.seconds m.seconds a; right = grind arith; taken = taken_of_images m.seconds m.seconds choice a }

  is_taken : (t : Taken O O) → taken_of choice a ≡ Ok t → IsTaken law.off l choice (offset_taken (map_taken m.seconds m.seconds t))
  is_taken t e = grind (numbers, map_taken m.seconds m.seconds t, takes_seconds)

  pub refused_of : (e : ResolveError) → taken_of choice a ≡ Err e → IsUnresolved law.off l choice e
  refused_of e none = grind (numbers, takes_seconds)

-- the same for a local date-time
module _ {O D : Type 0} {m : Meaning O} (law : Law m) (l : Reading) (choice : Choice) (a : Around O O) (around : AreOffsetsAround law l.s a)
    (show : D → Zoned O) where
  -- by the offset that is taken
  pub taken_resolved : (t : Taken O O) (result : Result D ResolveError) → taken_of choice a ≡ Ok t → let k = offset_taken (map_taken m.seconds m.seconds t) in
      MatchResult result (λ d. IsInRange (l.s -ℤ k) × IsAt law (behind l k) (show d)) (λ e. (e ≡ OutOfRange) × ¬ (IsInRange (l.s -ℤ k)))
      → MatchResult result (λ d. IsResolved law l choice (show d)) (λ e. IsUnresolved law.off l.s choice e)
  taken_resolved t (Ok d) e h = grind (numbers, map_taken, is_taken)
  taken_resolved t (Err f) e h = out_of_range _ (is_taken law l.s choice a around t e) h.1 h.0

  -- by one at which clocks show the local date-time
  pub shown_resolved : (o : O) (result : Result D ResolveError) → taken_of choice a ≡ Ok (Shown o)
      → MatchResult result (λ d. HasInstant m.seconds l o × (show d ≡ instant_of m.seconds l o)) (λ e. (e ≡ OutOfRange) × ¬ (HasInstant m.seconds l o))
      → MatchResult result (λ d. IsResolved law l choice (show d)) (λ e. IsUnresolved law.off l.s choice e)
  shown_resolved o (Ok d) e h =
      let there = subst (λ r. MatchResult r (HoldsOfTaken (IsShownBy law l.s) (λ _. ⊤)) (λ _. ⊤)) e
      (taken_holds (IsShownBy law l.s) (λ _. ⊤) choice a (each_shown_by law l.s a around)) in
      taken_resolved (Shown o) (Ok d) e (h.0, rw h.1 (at_shown law l there.0 o there.1 there.2 there.3).1)
  shown_resolved o (Err f) e h = taken_resolved (Shown o) (Err f) e h
