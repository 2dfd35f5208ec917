-- How many probes a zone's lookups take: the bounds, each in one place.
use Rattle.std.specs.Prelude.{ℕ, ℤ, ◌+◌, ◌*◌, ◌<◌, length}
use Rattle.tz_search.specs.{Counts.{Counts, RoseWithin, RoseByPieces}, Digits.{digits}}
use Rattle.tz_info.specs.{Questions.{IsAskedFor}, Windows.{IsWindowCount}, Zones.{Zone}}
use Rattle.offset_core.specs.{declared.around.Around.{Around}, declared.around.Around.TheVariants.{Gap}}
use Rattle.tz_base.specs.{LocalTypes.{LocalType}, declared.change.Change.{Change}}

-- by instant: the probes of one search in the transitions, and one question to the rule
abbrev pub RoseByInstant : Zone → Counts → Counts → Type 0
RoseByInstant z before after = RoseWithin before after (digits (length z.transitions)) 1

-- by wall clock: the probes of one search in the pieces of the index (at least one if there is a transition), and two
-- questions
pub record RoseByWallClock (z : Zone) (before after : Counts) : Type 0 where
  pub most : RoseByPieces before after (digits (2 * length z.transitions + 1)) 2
  pub least : 0 < length z.transitions → before.piece_reads < after.piece_reads

-- by wall clock without the index: the probes of one search in the transitions, one for each transition of the window and two
-- more (at least one if there is a transition), and two questions
pub record RoseByWalk (z : Zone) (local : ℤ) (before after : Counts) : Type 0 where
  pub window : ℕ
  pub counted : IsWindowCount z local window
  pub most : RoseWithin before after (digits (length z.transitions) + window + 2) 2
  pub least : 0 < length z.transitions → before.reads < after.reads

-- the transition probes of the two sides of a gap, and the questions about them
abbrev pub gap_reads : Zone → Around LocalType Change → ℕ
gap_reads z (Gap gap) = 1 + 3 * digits (length z.transitions)
gap_reads z _ = 0

abbrev pub gap_questions : Around LocalType Change → ℕ
gap_questions (Gap gap) = 3
gap_questions _ = 0

-- by wall clock with both sides of a gap: the probes and questions of a lookup by wall clock, and in a gap those of its sides
pub record RoseAround (z : Zone) (local : ℤ) (found : Around LocalType Change) (before after : Counts) : Type 0 where
  pub looked_up : Counts
  pub cost : RoseByWallClock z before looked_up
  pub questions : IsAskedFor z local before.rule_questions looked_up.rule_questions
  pub sides : RoseWithin looked_up after (gap_reads z found) (gap_questions found)
