-- Local date-times converted to UTC by clocks whose offset never changes.
use Rattle.offset_core.specs.declared.local_result.LocalResult.TheVariants.{Ambiguous, None as none, Single}
use Rattle.zoned_time.proofs.Words.{AreInstantsOf, AreOffsetsFor, Each, HasInstant, IsAndThen, IsAt, IsFixed, IsInRange, IsRelocal, IsShownBetween, IsSome}
use Rattle.zoned_time.proofs.Words.{IsWallAnswer, IsZoneSecond, Law, LocalResult, Meaning, Option, Reading, SameLaw, ShowsByOffset, SingleIff, SomeIff, Utc}
use Rattle.zoned_time.proofs.Words.{Zoned, and_then_told, arith, home_law, in_utc, instant_of, local_of, map_of, numbers, option_map, pos, single_of, ℤ, ◌-ℤ◌}
use Rattle.zoned_time.proofs.Words.{◌≡◌, ◌⊎◌}

-- one offset gives one instant, or none
single_instant : {O : Type 0} (seconds : O → ℤ) (l : Reading) (o : O) (answer : LocalResult (Zoned O))
    → AreInstantsOf seconds l (Single o) answer → SingleIff answer (HasInstant seconds l o) (instant_of seconds l o)
single_instant = grind arith

epoch_in_zone : IsZoneSecond (pos 0)
epoch_in_zone = grind arith

-- a zone with that law
module _ {O : Type 0} {m : Meaning O} (law : Law m) where
  -- two seconds can't show the same
  not_between : (l a b : ℤ) → IsFixed law → IsShownBetween (ShowsByOffset law.off l) a b → ⊥
  not_between = grind arith

  -- and a second in range shows its local time
  shown_in_range : (l : ℤ) → IsFixed law → IsInRange (l -ℤ law.off (pos 0)) → ShowsByOffset law.off l (l -ℤ law.off (pos 0)) (law.off (pos 0))
  shown_in_range = grind arith

  -- one offset's instant, if it is in range, or no offset, if none is
  abbrev GivenOnce : Reading → LocalResult (Zoned O) → Type 0
  GivenOnce l answer =
      ((o : O) × (m.seconds o ≡ law.off (pos 0)) × SingleIff answer (HasInstant m.seconds l o) (instant_of m.seconds l o))
      ⊎ ((IsInRange (l.s -ℤ law.off (pos 0)) → ⊥) × (answer ≡ none))

  given_once : (l : Reading) (offsets : LocalResult O) (answer : LocalResult (Zoned O)) → IsFixed law
      → IsWallAnswer (ShowsByOffset law.off l.s) (map_of m.seconds offsets) → AreInstantsOf m.seconds l offsets answer → GivenOnce l answer
  given_once l none answer fixed wall instants = grind (numbers, shown_in_range l.s fixed)
  given_once l (Single o) answer fixed wall instants = grind (numbers, epoch_in_zone, single_instant)
  given_once l (Ambiguous a b) answer fixed wall instants = grind (numbers, not_between l.s (m.seconds a) (m.seconds b) fixed wall)

  -- so a zone of one offset gives one instant, or none if that is out of range
  pub fixed_relocal : (zone : O) (l : Reading) (answer : LocalResult (Zoned O)) → m.seconds zone ≡ law.off (pos 0)
      → ((o : O) → m.seconds o ≡ law.off (pos 0) → o ≡ zone) → IsFixed law → IsRelocal law l answer
      → SingleIff answer (HasInstant m.seconds l zone) (instant_of m.seconds l zone)
  fixed_relocal zone l answer is only fixed h = grind (numbers, given_once l h.offsets answer fixed h.wall.wall h.instants)

  -- and one that is in range
  pub fixed_single : {T : Type 0} (l : Reading) (show : T → Zoned O) (answer : LocalResult T)
      → IsFixed law → IsInRange (l.s -ℤ law.off (pos 0)) → IsRelocal law l (map_of show answer) → IsSome (single_of answer)
  fixed_single l show answer fixed range h = grind (numbers, given_once l h.offsets (map_of show answer) fixed h.wall.wall h.instants)

  -- an instant of an offset that a zone gives at the second u for the wall clock l
  pub at_shown : (l : Reading) (u : ℤ) (o : O) → ShowsByOffset law.off l.s u (m.seconds o) → law.in_force (l.s -ℤ m.seconds o) o
      → SameLaw (home_law m o) law
      → (local_of m.seconds (instant_of m.seconds l o) ≡ l) × IsAt law (instant_of m.seconds l o).utc (instant_of m.seconds l o)
  at_shown = grind numbers

  -- the instants that a zone gives for a wall clock show it
  pub relocal_shown : (l : Reading) (answer : LocalResult (Zoned O)) → IsRelocal law l answer
      → Each (λ d. (local_of m.seconds d ≡ l) × IsAt law d.utc d) answer
  relocal_shown = grind (arith, at_shown)

-- which is the local date-time itself for UTC
pub utc_instant : (l : Reading) (answer : LocalResult (Zoned Utc))
    → SingleIff answer (HasInstant {O = Utc} (λ _. pos 0) l (record {})) (instant_of {O = Utc} (λ _. pos 0) l (record {}))
    → SingleIff answer (IsInRange l.s) (in_utc l)
utc_instant = grind arith

-- by seconds that agree
pub shown_by : {O : Type 0} {m : Meaning O} {seconds : O → ℤ} → ((o : O) → m.seconds o ≡ seconds o)
    → (law : Law m) (l : Reading) (answer : LocalResult (Zoned O))
    → Each (λ d. (local_of m.seconds d ≡ l) × IsAt law d.utc d) answer → Each (λ d. (local_of seconds d ≡ l) × IsAt law d.utc d) answer
shown_by = grind arith

-- the offsets that a zone gives, and what f gave for each
pub relocal_of : {F O D : Type 0} {m : Meaning O} (law : Law m) (l : Reading) (show : D → Zoned O) (step : F → O → Option D → F
    → Type 0) (f : F) (K : F → Type 0)
    (offsets : LocalResult O) (result : LocalResult D)
    → K f → ((e g : F) (o : O) (d : Option D) → K e → step e o d g → K g × SomeIff (option_map show d) (HasInstant m.seconds l o) (instant_of m.seconds l o))
    → AreOffsetsFor law l.s offsets → IsAndThen step f offsets result → IsRelocal law l (map_of show result)
relocal_of {m = m} law l show step f K offsets result k is wall h =
    record { offsets = offsets; wall = wall; instants = and_then_told show (HasInstant m.seconds l) (instant_of m.seconds l) step f K offsets result k is h }
