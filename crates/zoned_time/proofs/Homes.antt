-- What zones of the same law give, and zones of the same offsets in seconds.
use Rattle.offset_core.specs.{Around.{IsAround}, declared.around.Around.TheVariants.{Ambiguous, Gap, Single}}
use Rattle.zoned_time.proofs.Words.{Around, Choice, IsBeforeGap, IsResolved, IsTaken, IsUnresolved, ResolveError, Result, ShowsByOffset, Taken, Takes, behind, out_of_range, refused}
use Rattle.zoned_time.proofs.Words.{AreOffsetsFor, IsAt, IsFirstInstantFrom, IsFirstOutOfRange, IsInDay, IsInRange, IsRelocal, IsZonedAtOrAfter, Law}
use Rattle.zoned_time.proofs.Words.{LocalResult, MatchOption, Meaning, Option, Reading, SameLaw, SameOffsets, Zoned, arith, midnight, numbers, pos}
use Rattle.zoned_time.proofs.Words.{seconds_alone, ℤ, ◌+ℤ◌}

-- a law is the same as itself
pub same_itself : {O : Type 0} {m : Meaning O} (law : Law m) → SameLaw law law
same_itself = grind arith

-- a zone, and one of the same law
module _ {O : Type 0} {m : Meaning O} (law home : Law m) (same : SameLaw law home) where
  -- the offset at an instant
  pub at_home : (r : Reading) (d : Zoned O) → IsInRange r.s → IsAt law r d → IsAt home r d
  at_home = grind arith

  -- the offsets, and so the instants, for a wall clock
  pub offsets_home : (l : ℤ) (offsets : LocalResult O) → AreOffsetsFor law l offsets → AreOffsetsFor home l offsets
  offsets_home = grind numbers

  pub relocal_home : (l : Reading) (answer : LocalResult (Zoned O)) → IsRelocal law l answer → IsRelocal home l answer
  relocal_home = grind (arith, offsets_home)

  pub at_or_after_home : {T : Type 0} (l : Reading) (told : T → Zoned O) (found : Option T)
      → MatchOption found (IsFirstOutOfRange law.off l) (λ d. IsZonedAtOrAfter law l (told d))
      → MatchOption found (IsFirstOutOfRange home.off l) (λ d. IsZonedAtOrAfter home l (told d))
  at_or_after_home = grind arith

-- the first instants at or after local times, and days
pub first_home : {off home : ℤ → ℤ} {l r : Reading} → SameOffsets off home → IsFirstInstantFrom off l r → IsFirstInstantFrom home l r
first_home = grind arith

pub in_day_home : {off home : ℤ → ℤ} {day : ℤ} {r : Reading} → SameOffsets off home → IsInDay off day r → IsInDay home day r
in_day_home {day = day} same h = record {
  start = h.start;
  next = h.next;
  starts = first_home {l = midnight day} same h.starts;
  ends = first_home {l = midnight (day +ℤ pos 1)} same h.ends;
  not_before = h.not_before;
  before = h.before;
}

-- what a choice takes for a local time
module _ {off home : ℤ → ℤ} (same : SameOffsets off home) (l : ℤ) where
  around_home : (a : Around ℤ ℤ) → IsAround (ShowsByOffset off l) (IsBeforeGap off l) a → IsAround (ShowsByOffset home l) (IsBeforeGap home l) a
  around_home (Single a) h = grind arith
  around_home (Ambiguous a b) h = grind arith
  around_home (Gap a) h = grind arith

  takes_home : {choice : Choice} {outcome : Result (Taken ℤ ℤ) ResolveError} → Takes (ShowsByOffset off l) (IsBeforeGap off l) choice outcome
      → Takes (ShowsByOffset home l) (IsBeforeGap home l) choice outcome
  takes_home h = record { around = h.around; right = around_home h.around h.right; taken = h.taken }

  taken_home : {choice : Choice} {k : ℤ} → IsTaken off l choice k → IsTaken home l choice k
  taken_home h = record { taken = h.taken; takes = takes_home h.takes; offset = h.offset }

  pub unresolved_home : {choice : Choice} {e : ResolveError} → IsUnresolved off l choice e → IsUnresolved home l choice e
  unresolved_home (refused takes) = refused (takes_home takes)
  unresolved_home (out_of_range k taken out is) = out_of_range k (taken_home taken) out is

pub resolved_home : {O : Type 0} {m : Meaning O} {law home : Law m} (same : SameLaw law home) (l : Reading) {choice : Choice} {d : Zoned O}
    → IsResolved law l choice d → IsResolved home l choice d
resolved_home {law = law} {home = home} same l {d = d} h = record {
  offset = h.offset;
  taken = taken_home same.offsets l.s h.taken;
  in_range = h.in_range;
  at = at_home law home same (behind l h.offset) d h.in_range h.at;
}

-- a zone, and one of the same offsets in seconds
module _ {O : Type 0} {m : Meaning O} (law other : Law m) (same : SameOffsets law.off other.off) where
  pub at_seconds : (r : Reading) (d : Zoned O) → IsInRange r.s → IsAt law r d → IsAt (seconds_alone other) r d
  at_seconds = grind arith

  offsets_seconds : (l : ℤ) (offsets : LocalResult O) → AreOffsetsFor law l offsets → AreOffsetsFor (seconds_alone other) l offsets
  offsets_seconds = grind numbers

  pub relocal_seconds : (l : Reading) (answer : LocalResult (Zoned O)) → IsRelocal law l answer → IsRelocal (seconds_alone other) l answer
  relocal_seconds = grind (arith, offsets_seconds)

pub ruleset homes = (at_home, at_seconds, relocal_home)
