-- The pieces of some neighbouring segments, and the search in them.
use Rattle.naive_base.specs.Range.{IsWide}
use Rattle.offset_core.specs.declared.local_result.LocalResult.{LocalResult, TheVariants.{None, Single, Ambiguous}}
use Rattle.std.specs.{
  Prelude.{ℕ, zero, suc, ℤ, ◌≡◌, ◌⊎◌, ◌+◌, ◌-◌, ◌*◌, ◌<◌, ◌≤◌, ◌+ℤ◌, ◌≤ℤ◌, if◌then◌else◌, nat_lt, List, length, Option, None as none, slice_get},
  Prelude.Some as some,
  Int.{saturate_signed, w64},
}
use Rattle.tz_base.specs.{LocalTypes.{LocalType, IsUtOffset}, declared.change.Change.{Change}}
use Rattle.tz_info.specs.{
  Steps.{Segments.{begin_of, index_of}, WallPieces.{AreInOrder, IsShownAmong, answer_at}},
  Zones.{Zone},
  declared.zone.made.{segments.{Segment.{Segment}, ZoneLists.{ZoneLists}}, pieces.Piece.{Piece}},
  declared.zone.made.shown.Shown.{Shown, TheVariants.{Skipped, Once, Several}},
  declared.rule.transition_rule.TransitionRule.{TransitionRule},
}
use Rattle.tz_base.specs.declared.{leap_second.LeapSecond.{LeapSecond}, transition.Transition.{Transition}}

-- the zone of those lists
abbrev pub zone_of : List Transition → List LocalType → List LeapSecond → Option TransitionRule → Zone
zone_of transitions types leaps rule = record { transitions = transitions; types = types; leaps = leaps; rule = rule }

-- the zone of lists that are lent
abbrev pub zone_in : ZoneLists → Zone
zone_in l = zone_of l.transitions.now l.types.now l.leaps.now l.rule.now

-- the answer's indexes are less than n
abbrev pub AreBelow : ℕ → LocalResult ℕ → Type 0
AreBelow n None = Unit {0}
AreBelow n (Single i) = i < n
AreBelow n (Ambiguous i j) = (i < n) × (j < n)

-- the answer's types are those of the other's indexes
abbrev pub AreListed : List LocalType → LocalResult ℕ → LocalResult LocalType → Type 0
AreListed types None None = Unit {0}
AreListed types (Single i) (Single t) = slice_get types i ≡ some t
AreListed types (Ambiguous i j) (Ambiguous s t) = (slice_get types i ≡ some s) × (slice_get types j ≡ some t)
AreListed types _ _ = ⊥

-- a jump's place is that of a segment after an entry
abbrev pub IsPlaced : ℕ → Shown → Type 0
IsPlaced count (Skipped place) = (0 < place) × (place ≤ count)
IsPlaced count _ = Unit {0}

-- the change at which the segment at a jump's place begins, or none if the answer is no jump
abbrev pub IsJump : List LocalType → List Transition → Shown → Option Change → Type 0
IsJump types entries (Skipped place) (some c) =
    (c.at ≡ begin_of entries place) × (slice_get types (index_of entries (place - 1)) ≡ some c.before)
    × (slice_get types (index_of entries place) ≡ some c.after)
IsJump types entries (Skipped place) none = ⊥
IsJump types entries _ none = Unit {0}
IsJump types entries _ (some c) = ⊥

-- one piece less if the first segment, which has no start, is included, and one less if the last, which has no end, is
abbrev pub opening : ℕ → ℕ
opening zero = 1
opening (suc low) = 0

-- the pieces answer for the segments from `low` on and before `high`
pub record ArePieces (z : Zone) (entries : List Transition) (low high : ℕ) (before : Shown) (pieces : List Piece) : Type 0 where
  pub ordered : AreInOrder pieces
  pub most : length pieces + opening low + (if nat_lt (length entries) high then 1 else 0) + 2 * low ≤ 2 * high
  pub some : low ≡ 0 → 0 < length pieces
  pub answers : (local : ℤ) → IsWide local → IsShownAmong z entries low high local (answer_at before pieces local)

-- the index and the offset are those of the type in the segment at that place
pub record IsSegment (types : List LocalType) (entries : List Transition) (place : ℕ) (segment : Segment) : Type 0 where
  pub index : segment.index ≡ index_of entries place
  pub below : segment.index < length types
  pub type : LocalType
  pub listed : slice_get types (index_of entries place) ≡ some type
  pub is_offset : IsUtOffset type.offset
  pub offset : segment.offset ≡ type.offset

-- what a clock of that offset shows at the first second of the segment at that place, or the nearest number of 64 bits
abbrev pub cut_of : List Transition → ℕ → ℤ → ℤ
cut_of entries place offset = saturate_signed w64 (begin_of entries place +ℤ offset)

-- one segment ends and the next starts: from the first of the two cuts up to the last both have that answer
pub record IsAmidCuts (low high : ℤ) (amid : Shown) (index : ℕ) (first last : Piece) : Type 0 where
  pub order : low ≤ℤ high
  pub here : first ≡ record { start = low; answer = amid }
  pub next : last ≡ record { start = high; answer = Once index }

-- the two pieces that begin when the segment at that place starts and the one before it ends: amid them neither shows the local
-- time, as in a gap, or both do, as in a fold
abbrev pub ArePiecesAt : List Transition → ℕ → Segment → Segment → Piece → Piece → Type 0
ArePiecesAt entries place before segment first last =
    IsAmidCuts (cut_of entries place before.offset) (cut_of entries place segment.offset) (Skipped place) segment.index first last
    ⊎ IsAmidCuts (cut_of entries place segment.offset) (cut_of entries place before.offset) (Several before.index segment.index) segment.index first last

-- `cut` is a local time at which the segment before that place ends, or the one at that place starts
pub record IsCutAt (types : List LocalType) (entries : List Transition) (place : ℕ) (cut : ℤ) : Type 0 where
  pub segment : Segment
  pub beside : IsSegment types entries (place - 1) segment ⊎ IsSegment types entries place segment
  pub is_cut : cut ≡ cut_of entries place segment.offset

-- the later of two neighbouring entries cuts the axis at or before a cut of the earlier one
pub record AreCutsCrossed (types : List LocalType) (entries : List Transition) : Type 0 where
  pub place : ℕ
  pub first : 0 < place
  pub within : place < length entries
  pub cut : ℤ
  pub next_cut : ℤ
  pub is_cut : IsCutAt types entries place cut
  pub is_next_cut : IsCutAt types entries (suc place) next_cut
  pub crossed : next_cut ≤ℤ cut
