-- What is taken for a wall clock that clocks show never, once or several times. Seconds count from 1970-01-01 00:00:00.
use Rattle.std.specs.Prelude.{◌≡◌, ℤ, pos, ◌+ℤ◌, ◌-ℤ◌, ◌≤ℤ◌, ◌<ℤ◌, Option, Some, None, Ok, Err}
use Rattle.offset_core.specs.{declared.{choice.Choice.{Choice}, around.Around.{Around}}, Around.{Takes}, WallAnswer.{IsNeverShown}}
use Rattle.offset_core.specs.declared.around.{Around.TheVariants.{Single, Ambiguous, Gap}, Taken.{Taken, TheVariants.{Shown, InGap}}}
use Rattle.offset_core.specs.declared.resolve_error.ResolveError.{ResolveError, TheVariants.{OutOfRange}}
use Rattle.offset_core.specs.declared.local_result.LocalResult.TheVariants.{Single as Once, Ambiguous as Twice}
use Rattle.naive_base.specs.{Range.{IsInRange}, Reading.{Reading, behind}}
use Rattle.zoned_time.specs.{Zone.{Meaning, Law, home_law, IsZoneSecond, SameLaw, ShowsByOffset, AreOffsetsFor}, Zoned.{Zoned, IsAt}}

-- No clock shows l, `first` is the first second at which one shows more, and k is the offset at the second before it.
pub record IsBeforeGap (off : ℤ → ℤ) (l k : ℤ) : Type 0 where
  pub never : IsNeverShown (ShowsByOffset off l)
  pub first : ℤ
  pub in_zone : IsZoneSecond first × IsZoneSecond (first -ℤ pos 1)
  pub more : l <ℤ (first +ℤ off first)
  pub least : (u : ℤ) → IsZoneSecond u → l <ℤ (u +ℤ off u) → first ≤ℤ u
  pub before : k ≡ off (first -ℤ pos 1)

-- the zone's offset before the gap that l lies in, in force at the second before the gap; none if a clock shows l
abbrev pub IsOffsetBeforeGap : {O : Type 0} {m : Meaning O} → Law m → ℤ → Option O → Type 0
IsOffsetBeforeGap {m = m} law l (Some o) =
    (gap : IsBeforeGap law.off l (m.seconds o)) × law.in_force (gap.first -ℤ pos 1) o × SameLaw (home_law m o) law
IsOffsetBeforeGap law l None = (u : ℤ) × (k : ℤ) × ShowsByOffset law.off l u k

-- the offsets that a zone gives for the wall clock l, or the one before the gap
abbrev pub AreOffsetsAround : {O : Type 0} {m : Meaning O} → Law m → ℤ → Around O O → Type 0
AreOffsetsAround law l (Single a) = AreOffsetsFor law l (Once a)
AreOffsetsAround law l (Ambiguous a b) = AreOffsetsFor law l (Twice a b)
AreOffsetsAround law l (Gap a) = IsOffsetBeforeGap law l (Some a)

-- the offset at the instant that is taken, or the one before the gap
abbrev pub offset_taken : Taken ℤ ℤ → ℤ
offset_taken (Shown k) = k
offset_taken (InGap k) = k

-- the offset by which a choice takes l for an instant: that of the only second which shows l; in a fold that of the first, or
-- of the last; in a gap the one before it
pub record IsTaken (off : ℤ → ℤ) (l : ℤ) (choice : Choice) (k : ℤ) : Type 0 where
  pub taken : Taken ℤ ℤ
  pub takes : Takes (ShowsByOffset off l) (IsBeforeGap off l) choice (Ok taken)
  pub offset : k ≡ offset_taken taken

-- the instant of the local date-time l under a choice: the offset is the zone's own there, which in a gap is the one after it
pub record IsResolved {O : Type 0} {m : Meaning O} (law : Law m) (l : Reading) (choice : Choice) (d : Zoned O) : Type 0 where
  pub offset : ℤ
  pub taken : IsTaken law.off l.s choice offset
  pub in_range : IsInRange (behind l offset).s
  pub at : IsAt law (behind l offset) d

-- why l has no instant: the choice rejects l, or its instant is out of range
pub data IsUnresolved (off : ℤ → ℤ) (l : ℤ) (choice : Choice) (e : ResolveError) : Type 0 where
  refused : Takes (ShowsByOffset off l) (IsBeforeGap off l) choice (Err e) → IsUnresolved off l choice e
  out_of_range : (k : ℤ) → IsTaken off l choice k → ¬ (IsInRange (l -ℤ k)) → e ≡ OutOfRange → IsUnresolved off l choice e
