-- Segments: from one transition to the next one type is in force. Segment i comes after the first i transitions.
use Rattle.std.specs.Prelude.{ℕ, suc, ◌<◌, ◌-◌, length, List, map, slice_index_or, take, ℤ, ◌+ℤ◌, ◌<ℤ◌, Option, Some, None}
use Rattle.tz_info.specs.{
  Leaps.{correction_at, least_time},
  Lists.{last_else},
  Transitions.{passed},
  Zones.{Zone},
  declared.rule.transition_rule.TransitionRule.{TransitionRule},
}
use Rattle.tz_base.specs.declared.transition.Transition.{Transition}

-- the segment of the second u: how many transitions have come by then
unfoldable pub segment_of : Zone → ℤ → ℕ
segment_of z u = length (passed z.transitions (u +ℤ correction_at z.leaps u))

-- how many segments n transitions make, without the rule's, which is the last
abbrev pub table_count_by : Option TransitionRule → ℕ → ℕ
table_count_by (Some rule) n = n
table_count_by None n = suc n

abbrev pub table_count : Zone → ℕ
table_count z = table_count_by z.rule (length z.transitions)

-- the leap time at which segment i begins; the first begins with time
abbrev pub begin_of : List Transition → ℕ → ℤ
begin_of transitions i = last_else least_time (map (λ t. t.unix_leap_time) (take i transitions))

-- the index of the type in segment i
abbrev pub index_of : List Transition → ℕ → ℕ
index_of transitions i = last_else 0 (map (λ t. t.type_index) (take i transitions))

-- the transition at that place refers to one of that many types, and comes later than the one before it
pub record Stands (types : ℕ) (transitions : List Transition) (place : ℕ) : Type 0 where
  pub index : (d : Transition) → (slice_index_or transitions place d).type_index < types
  pub later : (d : Transition) → 0 < place → (slice_index_or transitions (place - 1) d).unix_leap_time <ℤ (slice_index_or transitions place d).unix_leap_time
