-- The segments between transitions and between entries: what one segment answers, and how neighbours' pieces make those of both.
use Rattle.offset_core.specs.declared.local_result.LocalResult.TheVariants.{Ambiguous, None, Single}
use Rattle.std.proofs.lemmas.Option.{slice_get_within}
use Rattle.tz_info.proofs.{
  AnswerLaws.{joined_answer, same_answer},
  LeapOrder.leap_times_answer,
  LeapStarts.saturated,
  SegmentLaws.{begins_rise, come_at_time, come_from, place_most, places_rise, segment_most, type_before, type_from, type_in_before, type_in_from},
  Prefixes.Between,
  Words.{AreBelow, AreListed, ArePieces, AreRising, HasType, IsLeapTime, IsMerged, IsNear, IsSegment, IsShownAmong, IsShownIn, IsStart, IsTable, IsUtOffset},
  Words.{IsValid, IsWallAnswer, IsWide, List, ListedAmong, LocalResult, LocalType, None as none, Option, Piece, SFits, Segment, Shown, ShownAmong, Shows},
  Words.{Some as some, Transition, TransitionRule, TypeAt, TypeIn, Zone, [], answer_at, arith, by_lt_z, cases_lt, cut_of, index_of, joined, le_false, le_true},
  Words.{length, linear, place_at, segment_of, shown_indexes, suc, table_count, table_count_by, together, w64, ℕ, ℤ, ⊎_elim, ◌+◌, ◌-ℤ◌, ◌<ℤ◌, ◌<◌, ◌↔◌, ◌∷◌},
  Words.{◌≡◌, ◌≤ℤ◌, ◌≤◌, ◌⊎◌},
  ZoneLaws.leap_time_decided,
}
use Rattle.tz_info.specs.declared.zone.made.shown.Shown.TheVariants.{Less, Once, Skipped}

-- ---- one segment between transitions

-- the segment is not the rule's
own_segment : (rule : Option TransitionRule) (k n : ℕ) → k < table_count_by rule n → (k < n) ⊎ ((rule ≡ none) × (k ≡ n))
own_segment rule k n h = grind arith

-- its type is the listed one
pub type_in_table : (z : Zone) (k : ℕ) (u : ℤ) (t : LocalType) → AreRising z.transitions → k < table_count z → TypeIn z k u t
    → HasType z (index_of z.transitions k) t
type_in_table z k u t rising own a = grind (linear, own_segment z.rule k (length z.transitions) own, type_before z u t rising k a, type_from z u t rising)

-- and at each of its seconds that type is in force
pub type_of_table : (z : Zone) (k : ℕ) (u x : ℤ) (t : LocalType) → k < table_count z → IsLeapTime z.leaps u x → Between z.transitions x k k
    → HasType z (index_of z.transitions k) t → TypeIn z k u t
type_of_table z k u x t own time b has =
    grind (linear, own_segment z.rule k (length z.transitions) own, type_in_before z k u x t, type_in_from z u x t time)

pub leap_time_of : (z : Zone) (u : ℤ) → IsValid z → IsNear u → (x : ℤ) × IsLeapTime z.leaps u x
leap_time_of z u valid near = ⊎_elim (λ x. x) (λ r. absurd (leap_times_answer _ u valid.leaps near.0 near.1 r)) (leap_time_decided _ u)

pub near_of : (l o : ℤ) → IsWide l → IsUtOffset o → IsNear (l -ℤ o)
near_of l o wide h = grind linear

-- a near second, and the start of the segment k
module _ (z : Zone) (k : ℕ) (s u : ℤ) (valid : IsValid z) (start : IsStart z.transitions z.leaps k s) (near : IsNear u) where
  -- of the near seconds, those from the start on lie in the segment or in a later one
  pub begun : (k ≤ segment_of z u) ↔ (s ≤ℤ u)
  begun = let (x, time) = leap_time_of z u valid near in let c = come_at_time z u x time in let s = start u x near time in grind linear

  -- and those before it in an earlier one
  pub not_begun : (segment_of z u < k) ↔ (u <ℤ s)
  not_begun = let b = begun in grind linear

-- ---- two neighbouring sets of segments between entries

pub shown_joined : (z : Zone) (ts : List Transition) (low middle high : ℕ) (l : ℤ) (a b : Shown) → AreRising ts → low ≤ middle → middle ≤ high
    → IsShownAmong z ts low middle l a → IsShownAmong z ts middle high l b → IsShownAmong z ts low high l (together a b)
shown_joined z ts low middle high l a b rising h k x y =
    let e : shown_indexes (together a b) ≡ joined (shown_indexes a) (shown_indexes b) = grind arith in record {
      wall = rw e (joined_answer (ListedAmong z ts low middle l) (ListedAmong z ts middle high l) _ _ _ (record {
        first = grind arith;
        last = grind arith;
        all = λ u i m. grind (arith, cases_lt (place_at ts u) middle);
        order = grind (linear, places_rise);
      }) x.wall y.wall);
      side = grind arith;
    }

pub pieces_joined : {z : Zone} {ts : List Transition} {low middle high : ℕ} {bx by : Shown} {xs ys out : List Piece} → AreRising ts → low < middle
    → middle < high → ArePieces z ts low middle bx xs → ArePieces z ts middle high by ys → IsMerged bx xs by ys out
    → ArePieces z ts low high (together bx by) out
pieces_joined rising h k a b m = grind (arith, shown_joined)

-- ---- one segment between entries

pub type_there : (z : Zone) (ts : List Transition) (top k : ℕ) (u : ℤ) (f t : LocalType) → IsTable z ts top → k < top → SFits w64 u
    → HasType z (index_of ts k) t → place_at ts u ≡ k → TypeAt z u f → f ≡ t
type_there z ts top k u f t table own fits has e h = let a = table.listed u f fits (omega arith) h in cc

pub near_fits : (u : ℤ) → IsNear u → SFits w64 u
near_fits u near = omega linear

pub near_wide : (l : ℤ) → IsWide l → IsNear l
near_wide l wide = grind linear

abbrev pub piece : ℤ → Shown → Piece
piece start answer = record { start = start; answer = answer }

-- a segment of a table
module _ {z : Zone} {ts : List Transition} {top k : ℕ} {s : Segment} (table : IsTable z ts top) (own : k < top) (is : IsSegment z.types ts k s) where
  offset_here : (u : ℤ) (f : LocalType) → SFits w64 u → place_at ts u ≡ k → TypeAt z u f → f.offset ≡ s.offset
  offset_here u f fits e h = let a = table.listed u f fits (omega arith) h in cc

  module _ (l : ℤ) (wide : IsWide l) where
    near_here : IsNear (l -ℤ s.offset)
    near_here = near_of l _ wide (rw is.offset is.is_offset)

    -- the one second that could show the local time by that type lies in or after a segment if and only if the cut has come
    cut_begun : (j : ℕ) → 0 < j → j ≤ length ts → (j ≤ place_at ts (l -ℤ s.offset)) ↔ (cut_of ts j s.offset ≤ℤ l)
    cut_begun j inner within = grind (linear, saturated, come_from ts j, near_wide l)

    second_of : (v : ℤ) (j : ℕ) → ListedAmong z ts k (suc k) l v j → v ≡ l -ℤ s.offset
    second_of v j a = grind (linear, offset_here v a.local_type)

    -- if it comes after the segment's end, its clocks show less
    pub shown_after : k < length ts → cut_of ts (suc k) s.offset ≤ℤ l → IsShownAmong z ts k (suc k) l Less
    shown_after inner h =
        let passed = (cut_begun (suc k) (omega arith) (omega arith)).1 h in
        record {
          wall = λ v j m. grind (linear, second_of v j m);
          side = λ u f near from below here. grind (linear, offset_here u f (near_fits u near), places_rise ts (l -ℤ s.offset) u);
        }

    -- if it comes before its beginning, clocks jump over it there
    pub shown_before : 0 < k → l <ℤ cut_of ts k s.offset → IsShownAmong z ts k (suc k) l (Skipped k)
    shown_before inner h =
        let cut = cut_begun k inner (omega arith) in
        record {
          wall = λ v j m. let e = second_of v j m in grind linear;
          side = grind (linear, near_here, saturated, near_wide);
        }

    -- if it lies between the segment's cuts, the segment shows it once
    pub shown_inside : (0 < k → k ≤ length ts → cut_of ts k s.offset ≤ℤ l) → (k < length ts → l <ℤ cut_of ts (suc k) s.offset)
        → IsShownAmong z ts k (suc k) l (Once s.index)
    shown_inside from until =
        let most = place_most ts (l -ℤ s.offset) table.rising in
        let here : place_at ts (l -ℤ s.offset) ≡ k = grind (linear, cut_begun k, cut_begun (suc k)) in
        let near = near_here in let index = is.index in let offset = is.offset in
        record { wall = record { second = l -ℤ s.offset; shown = grind linear; only = second_of }; side = tt }

  -- the pieces of the first segment, which has no start
  pub first_pieces : k ≡ 0 → 0 < length ts → ArePieces z ts k (suc k) (Once s.index) (piece (cut_of ts (suc k) s.offset) Less ∷ [])
  first_pieces first n = grind (linear, le_false, le_true, shown_inside, shown_after)

  -- of the last one, which has no end
  pub last_pieces : 0 < k → k ≡ length ts → ArePieces z ts k (suc k) (Skipped k) (piece (cut_of ts k s.offset) (Once s.index) ∷ [])
  last_pieces later n =
      let answers : (l : ℤ) → IsWide l → IsShownAmong z ts k (suc k) l (answer_at (Skipped k) (piece (cut_of ts k s.offset) (Once s.index) ∷ []) l) =
      λ l wide. grind (linear, le_false, le_true, shown_inside l wide, shown_before l wide) in grind linear

  -- and of one between two entries
  pub inner_pieces : 0 < k → k < length ts
      → ArePieces z ts k (suc k) (Skipped k) (piece (cut_of ts k s.offset) (Once s.index) ∷ piece (cut_of ts (suc k) s.offset) Less ∷ [])
  inner_pieces later n =
      let rise = begins_rise ts _ table.rising later n in
      record {
        ordered = grind linear;
        most = grind arith;
        some = grind arith;
        answers = λ l wide. by_lt_z l (cut_of ts k s.offset) (λ before. grind (linear, le_false, shown_before l wide))
            (λ from. grind (linear, le_false, le_true, shown_inside l wide, shown_after l wide));
      }

-- ---- the types of indexes

pub indexes_below : (z : Zone) (ts : List Transition) (low high : ℕ) (l : ℤ) (a : LocalResult ℕ)
    → IsWallAnswer (ListedAmong z ts low high l) a → AreBelow (length z.types) a
indexes_below z ts low high l a h = grind (arith, slice_get_within)

-- seconds come in the table's segments alike
module _ (z : Zone) (ts : List Transition) (top : ℕ) (l : ℤ) (table : IsTable z ts top)
    (same : (u : ℤ) (t : LocalType) → SFits w64 u → TypeAt z u t → (segment_of z u < table_count z) ↔ (place_at ts u < top)) where
  listed_of : (u : ℤ) (t : LocalType) → ShownAmong z 0 (table_count z) l u t → ListedAmong z ts 0 top l u (index_of ts (place_at ts u))
  listed_of u t a = let h = table.listed u t in grind (arith, same)

  with_type : (u : ℤ) (i : ℕ) (t : LocalType) → ListedAmong z ts 0 top l u i → HasType z i t → ShownAmong z 0 (table_count z) l u t
  with_type u i t a has = grind (arith, same)

  pub typed_answer : (a : LocalResult ℕ) (b : LocalResult LocalType) → AreListed z.types a b → IsWallAnswer (ListedAmong z ts 0 top l) a
      → IsWallAnswer (ShownAmong z 0 (table_count z) l) b
  typed_answer None None e h = λ u t k. h u _ (listed_of u t k)
  typed_answer (Single i) (Single t) e h = record { second = h.second; shown = with_type _ i t h.shown e; only = λ u s k. h.only u _ (listed_of u s k) }
  typed_answer (Ambiguous i j) (Ambiguous s t) e h = record {
    first = h.first;
    last = h.last;
    several = h.several;
    at_first = with_type _ i s h.at_first e.0;
    at_last = with_type _ j t h.at_last e.1;
    not_before = λ u y k. h.not_before u _ (listed_of u y k);
    not_after = λ u y k. h.not_after u _ (listed_of u y k);
  }
  typed_answer _ _ e h = absurd e

-- ---- the table, and what comes after it

-- the first segments that are all of them
pub all_segments : (z : Zone) (l : ℤ) (answer : LocalResult LocalType) → AreRising z.transitions
    → IsWallAnswer (IsShownIn z l (length z.transitions + 1)) answer → IsWallAnswer (Shows (TypeAt z) l) answer
all_segments z l answer r = same_answer _ _ _ (λ u t k. k.shows) (grind (arith, segment_most))

-- without a rule the table has all seconds
pub table_alone : (z : Zone) (l : ℤ) (a : LocalResult LocalType) → IsValid z → z.rule ≡ none → IsWallAnswer (ShownAmong z 0 (table_count z) l) a
    → IsWallAnswer (Shows (TypeAt z) l) a
table_alone z l a valid e h = grind (linear, all_segments)

-- with one, those before the last transition
pub table_first : (z : Zone) (rule : TransitionRule) (l : ℤ) (a : LocalResult LocalType) → z.rule ≡ some rule
    → IsWallAnswer (ShownAmong z 0 (table_count z) l) a → IsWallAnswer (IsShownIn z l (length z.transitions)) a
table_first z rule l a e h = grind linear

-- and the others come from the rule's beginning on
pub rule_begun : (z : Zone) (u s : ℤ) → IsValid z → IsNear u → IsStart z.transitions z.leaps (length z.transitions) s
    → (segment_of z u ≡ length z.transitions) ↔ (s ≤ℤ u)
rule_begun z u s valid near start = grind (linear, segment_most, begun z (length z.transitions) s u)
