-- The wall-clock axis of a zone in pieces: on each of them the segments between the zone's entries answer alike.
use Rattle.naive_base.specs.Range.{IsWide}
use Rattle.offset_core.specs.{WallAnswer.{IsWallAnswer}, declared.local_result.LocalResult.{LocalResult, TheVariants.{None, Single, Ambiguous}}}
use Rattle.std.specs.{
  Prelude.{ℕ, ℤ, pos, ◌≡◌, ◌⊎◌, ◌+◌, ◌*◌, ◌<◌, ◌≤◌, ◌+ℤ◌, ◌≤ℤ◌, ◌<ℤ◌, ◌↔◌, int_le, List, length, map, filter, AllPairs, FitsSigned, suc, Option},
  Prelude.{None as none, Some as some},
  Int.{w64},
}
use Rattle.tz_base.specs.LocalTypes.{LocalType}
use Rattle.tz_info.specs.{
  Leaps.{IsLeapTime, IsNear},
  Lists.{last_else},
  Steps.{Entries.{AreEntries, Entries}, SegmentEnds.{AreEnds}, Segments.{begin_of, index_of, segment_of, table_count}},
  Transitions.{AreRising, NameTypes, passed},
  WallClocks.{Shows},
  Zones.{Zone, HasType, TypeAt},
  declared.rule.transition_rule.TransitionRule.{TransitionRule},
  declared.zone.made.{pieces.Piece.{Piece}, shown.Shown.{Shown, TheVariants.{Less, Skipped, Once, Several}}},
}
use Rattle.tz_base.specs.declared.{leap_second.LeapSecond.{LeapSecond}, transition.Transition.{Transition}}

-- the starts of the pieces don't fall
abbrev pub AreInOrder : List Piece → Type 0
AreInOrder pieces = AllPairs (λ p q. p.start ≤ℤ q.start) pieces

-- the answer of the last piece, or `before` if the list is empty
abbrev pub answer_before : Shown → List Piece → Shown
answer_before before pieces = last_else before (map (λ p. p.answer) pieces)

-- the answer of the last piece that starts at or before the local time, or `before` if no piece does
abbrev pub answer_at : Shown → List Piece → ℤ → Shown
answer_at before pieces local = answer_before before (filter (λ p. int_le p.start local) pieces)

-- the second u shows the local time, and from `low` to before `high` transitions have come by then
pub record ShownAmong (z : Zone) (low high : ℕ) (local u : ℤ) (t : LocalType) : Type 0 where
  pub shows : Shows (TypeAt z) local u t
  pub from : low ≤ segment_of z u
  pub below : segment_of z u < high

-- the segment between entries that has the second u: how many entries have come by then
abbrev pub place_at : List Transition → ℤ → ℕ
place_at entries u = length (passed entries u)

-- how many of these segments are the table's, and not the rule's
abbrev pub top_of : Option TransitionRule → Entries → ℕ
top_of (some rule) e = e.all
top_of none e = suc (length e.items)

-- in the segments before that place each entry's type is in force from its second on
pub record IsTable (z : Zone) (entries : List Transition) (top : ℕ) : Type 0 where
  pub rising : AreRising entries
  pub some : 0 < length z.types
  pub indexes : NameTypes (length z.types) entries
  pub within : top ≤ length entries + 1
  pub listed : (u : ℤ) (t : LocalType) → FitsSigned w64 u → place_at entries u < top → TypeAt z u t → HasType z (index_of entries (place_at entries u)) t
  pub in_force : (u : ℤ) (t : LocalType) → IsNear u → place_at entries u < top → HasType z (index_of entries (place_at entries u)) t → TypeAt z u t

-- the second u of the segments from `low` on and before `high` shows the local time at the type of that index in the zone's list
pub record ListedAmong (z : Zone) (entries : List Transition) (low high : ℕ) (local u : ℤ) (index : ℕ) : Type 0 where
  pub local_type : LocalType
  pub shows : Shows (TypeAt z) local u local_type
  pub from : low ≤ place_at entries u
  pub below : place_at entries u < high
  pub listed : HasType z index local_type

-- the wall clock's answer, by indexes of types
abbrev pub shown_indexes : Shown → LocalResult ℕ
shown_indexes Less = None
shown_indexes (Skipped place) = None
shown_indexes (Once i) = Single i
shown_indexes (Several i j) = Ambiguous i j

-- at each near second of the segments from `low` on and before `high` clocks show less than the local time
abbrev pub AreLessAmong : Zone → List Transition → ℕ → ℕ → ℤ → Type 0
AreLessAmong z entries low high local = (u : ℤ) (t : LocalType) → IsNear u → low ≤ place_at entries u → place_at entries u < high
    → TypeAt z u t → (u +ℤ t.offset) <ℤ local

-- clocks jump over the local time when the segment at that place begins: at the seconds of the segments from `low` on and before it they show less, and at
-- its first second they show more
pub record Jumps (z : Zone) (entries : List Transition) (low high : ℕ) (local : ℤ) (place : ℕ) : Type 0 where
  pub some : 0 < place
  pub inside : place < high
  pub less : AreLessAmong z entries low place local
  pub seen : ℤ
  pub near : IsNear seen
  pub later : place_at entries seen < place
  pub more : (t : LocalType) → HasType z (index_of entries place) t → local <ℤ (begin_of entries place +ℤ t.offset)

-- on which side of a local time that they do not show the segments from `low` on and before `high` are, or where in them it is jumped over
abbrev pub IsSideAmong : Zone → List Transition → ℕ → ℕ → ℤ → Shown → Type 0
IsSideAmong z entries low high local Less = AreLessAmong z entries low high local
IsSideAmong z entries low high local (Skipped place) = Jumps z entries low high local place
IsSideAmong z entries low high local (Once i) = Unit {0}
IsSideAmong z entries low high local (Several i j) = Unit {0}

-- what clocks show of the local time in the segments from `low` on and before `high`
pub record IsShownAmong (z : Zone) (entries : List Transition) (low high : ℕ) (local : ℤ) (shown : Shown) : Type 0 where
  pub wall : IsWallAnswer (ListedAmong z entries low high local) (shown_indexes shown)
  pub side : IsSideAmong z entries low high local shown

-- what clocks show of the local time in all segments of the table, by indexes of types
abbrev pub IsTableAnswer : Zone → ℤ → Shown → Type 0
IsTableAnswer z local shown = (e : Entries) × AreEntries z e × IsWallAnswer (ListedAmong z e.items 0 (top_of z.rule e) local) (shown_indexes shown)

-- at each near second before the last transition, or without a rule at each near second, clocks show less than the local time
abbrev pub IsTableLess : Zone → ℤ → Type 0
IsTableLess z local = (u : ℤ) (t : LocalType) → IsNear u → segment_of z u < table_count z → TypeAt z u t → (u +ℤ t.offset) <ℤ local

-- of the seconds near now, `count` transitions have come if and only if the second is `start` or later
abbrev pub IsStart : List Transition → List LeapSecond → ℕ → ℤ → Type 0
IsStart transitions leaps count start = (u x : ℤ) → IsNear u → IsLeapTime leaps u x → (count ≤ length (passed transitions x)) ↔ (start ≤ℤ u)

-- all transitions have come from that second on, by entries
abbrev pub IsBegun : Entries → ℤ → Type 0
IsBegun e start = (u : ℤ) → FitsSigned w64 u → (place_at e.items u ≡ e.all) ↔ (start ≤ℤ u)

-- the same of the seconds near now
abbrev pub IsBegunNear : Entries → ℤ → Type 0
IsBegunNear e start = (u : ℤ) → IsNear u → (place_at e.items u ≡ e.all) ↔ (start ≤ℤ u)

-- the pieces of a zone's wall-clock axis, the answer before the first of them, the latest ends of its segments if these don't rise, and the second from which
-- its rule is asked
pub record WallIndex : Type 0 where
  pub before : Shown
  pub pieces : List Piece
  pub maxima : List ℤ
  pub rule_from : ℤ

-- at least one probe is counted: there is a piece to probe, or the rule never begins
abbrev pub IsCounted : WallIndex → Type 0
IsCounted i = (0 < length i.pieces) ⊎ (i.rule_from ≡ pos 9_223_372_036_854_775_807)

-- the index is that of the zone: its pieces are sorted by their starts; at each local time they answer for all seconds of the table, which are those before
-- the last transition, or all if there is no rule; and the rule is asked from the last transition on
pub record IsIndex (z : Zone) (e : Entries) (i : WallIndex) : Type 0 where
  pub most : length i.pieces ≤ 2 * length e.items
  pub some : 0 < length z.transitions → IsCounted i
  pub order : AreInOrder i.pieces
  pub answers : (local : ℤ) → IsWide local → IsShownAmong z e.items 0 (top_of z.rule e) local (answer_at i.before i.pieces local)
  pub ends : AreEnds z.types e.items i.maxima
  pub rule_from : IsBegunNear e i.rule_from
