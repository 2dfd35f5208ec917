-- A walk from segment to segment: which seconds it adds, why none lies outside it, and how many transitions it reads.
use Rattle.offset_core.specs.declared.local_result.LocalResult.TheVariants.{None as Never}
use Rattle.tz_info.proofs.{
  AnswerLaws.{Parts, after_answer, same_answer},
  Candidates.offset_of_rule,
  ExtremeLaws.{at_least_least, at_most_greatest},
  SegmentLaws.{between_of, later_segment, segment_at, segment_here, segment_is, segments_rise, type_from, within_of},
  Prefixes.Between,
  WallSegments.{leap_time_of, near_of, rule_begun, type_in_table, type_of_table},
  Words.{AreUtOffsets, Bool, Counts, IsNear, IsShownIn, IsStart, IsTried, IsValid, IsWallAnswer, IsWide, IsWindow, List, LocalResult, LocalType, None, Option},
  Words.{RoseByWalk, RoseWithin, RuleAt, Shows, Some, Transition, TransitionRule, TypeAt, TypeFrom, Zone, [], arith, begin_of, cases_lt, come_between, digits},
  Words.{filter, get_or, get_or_default, index_of, inl, inr, length, linear, reads_more, segment_of, suc, sym, table_count, true, zero, ℕ, ℤ, ⊎_elim, ◌+ℤ◌},
  Words.{◌+◌, ◌-ℤ◌, ◌<ℤ◌, ◌<◌, ◌∷◌, ◌≡◌, ◌≤ℤ◌, ◌≤◌, ◌⊎◌},
}

-- ---- one segment more
-- one segment more of the table was tried, up to the next transition if there is one, of whose seconds at most one shows the local time
pub tried_segment : (z : Zone) (l : ℤ) (i : ℕ) {since : ℤ} {until : Option ℤ} {before after : LocalResult LocalType} → IsValid z → i ≤ length z.transitions
    → i < table_count z → since ≡ begin_of z.transitions i
    → ((d : Transition) × (i < length z.transitions) × (until ≡ Some (get_or z.transitions i d).unix_leap_time))
    ⊎ ((i ≡ length z.transitions) × (until ≡ None)) → IsTried z l (index_of z.transitions i) since until before after
    → IsWallAnswer (IsShownIn z l i) before → IsWallAnswer (IsShownIn z l (i + 1)) after
tried_segment z l i valid inside own begin next k s =
    let rising = valid.transitions.rising in
    let c = l -ℤ k.type.offset in
    let only : (u : ℤ) (f : LocalType) → IsShownIn z l (i + 1) u f → IsShownIn z l i u f ⊎ ((u ≡ c) × (segment_of z u ≡ i)) = λ u f h. ⊎_elim
    (λ m. inl (grind arith))
    (λ m.
    let e : segment_of z u ≡ i = omega arith in
    let a = type_in_table z i u f rising own (record { type = h.shows.type; segment = e }) in let listed = k.candidate.listed in grind linear)
    (cases_lt (segment_of z u) i) in
    ⊎_elim
    (λ h.
    let b : Between z.transitions k.leap_time i i = grind (linear, between_of z.transitions i k.leap_time, get_or_default z.transitions i) in
    let there = type_of_table z i c _ _ own k.candidate.of_second b k.candidate.listed in
    rw h.1 (after_answer _ _ c _ _ (λ u f m. grind arith) (λ u f m. ⊎_elim (λ a. inl a) (λ a. inr a.0) (only u f m))
    (record { shows = record { fits = k.candidate.fits; type = there.type; shown = omega linear }; from = omega arith; below = omega arith })
    (λ u f m. later_segment z u c valid (omega arith)) s))
    (λ h. rw h.1 (same_answer _ _ _ (λ u f m. grind arith) (λ u f m. ⊎_elim (λ a. a)
    (λ a. absurd (grind (linear, within_of _ _ _ k.candidate.leap_fits (rw (sym k.candidate.of_second.sum) at (segment_at z c i rising (rw a.0 at a.1))))))
    (only u f m)) s))
    k.tried

-- ---- the rule after the last transition
-- from `start` on the zone's types are the rule's, and before it those of the segments before the last one
pub with_rule : (z : Zone) (rule : TransitionRule) (start l : ℤ) → IsValid z → z.rule ≡ Some rule → IsStart z.transitions z.leaps (length z.transitions) start
    → IsWide l → AreUtOffsets rule
    → Parts (IsShownIn z l (length z.transitions)) (Shows (TypeFrom rule start) l) (IsShownIn z l (length z.transitions + 1))
with_rule z rule start l valid is begun wide offsets = record {
  first = λ u t k. grind arith;
  last = λ u t k.
      let near = near u t k.type.type k.shown in
      let there = (rule_begun z u _ valid near begun).1 k.type.since in
      let time = leap_time_of z u valid near in
      let b = rw (sym time.1.sum) at (segment_at z u _ valid.transitions.rising there) in
      grind linear;
  all = λ u t k. ⊎_elim (λ h. inl (grind arith))
      (λ h.
      let there : segment_of z u ≡ length z.transitions = let b = k.below in omega arith in
      let type = rw is at (type_from z u t valid.transitions.rising (record { type = k.shows.type; segment = there })) in
      grind (linear, rule_begun z u start valid (near u t type k.shows.shown) begun)) (cases_lt (segment_of z u) (length z.transitions));
  order = λ u v s t a b. let n = near v t b.type.type b.shown in grind (linear, rule_begun z v start valid, later_segment z u v);
} where
  near : (u : ℤ) (t : LocalType) → RuleAt rule u t → u +ℤ t.offset ≡ l → IsNear u
  near u t k e = grind (linear, near_of l t.offset wide, offsets t.offset, offset_of_rule _ u t k)

-- ---- nothing lies outside
-- a local time's window
module _ {z : Zone} {l low high : ℤ} (n : ℕ) (valid : IsValid z) (w : IsWindow z l low high) where
  pub none_before : Between z.transitions low n n → IsWallAnswer (IsShownIn z l n) Never
  none_before b u t k = let e = segment_is z _ n (rw w.is_low.sum at b) in
      grind (linear, segments_rise z (l -ℤ w.greatest) u, at_most_greatest z u _ t w.is_greatest k.shows.type)

  -- a transition that comes after the window
  module _ (d : Transition) (within : n < length z.transitions) (later : high <ℤ (get_or z.transitions n d).unix_leap_time) where
    -- a second that shows the local time by the least offset or a greater one lies at or before its segment
    pub window_most : (u o : ℤ) → w.least ≤ℤ o → u +ℤ o ≡ l → segment_of z u ≤ n
    window_most u o least e = grind (linear, segments_rise z u (l -ℤ w.least), segment_here)

    pub none_after : (answer : LocalResult LocalType) → IsWallAnswer (IsShownIn z l (n + 1)) answer → IsWallAnswer (Shows (TypeAt z) l) answer
    none_after answer s = grind (linear, same_answer, window_most, at_least_least)

window_least : {X : Type 0} (p : X → Bool) (xs : List X) (a b : ℕ) → b ≤ length xs → ((k : ℕ) (d : X) → a ≤ k → k < b → p (get_or xs k d) ≡ true)
    → b ≤ a + length (filter p xs)
window_least p [] a b h all = omega arith
window_least p (x ∷ xs) a zero h all = omega arith
window_least p (x ∷ xs) zero (suc b) h all =
    grind (arith, all 0 x, window_least p xs zero b (omega arith) (λ k d l m. all (suc k) d (omega arith) (omega arith)))
window_least p (x ∷ xs) (suc a) (suc b) h all =
    grind (arith, window_least p xs a b (omega arith) (λ k d l m. all (suc k) d (omega arith) (omega arith)))

-- the walk has come to that place: the transitions from the first on lie in the window, and one search and a look at each of them were counted
pub record Walked (z : Zone) (high : ℤ) (first place : ℕ) (a b : Counts) : Type 0 where
  pub inside : (k : ℕ) (d : Transition) → first ≤ k → k < place → (get_or z.transitions k d).unix_leap_time ≤ℤ high
  pub kept : a.reads ≤ b.reads
  pub most : b.reads + first ≤ a.reads + digits (length z.transitions) + place + 1
  pub questions : b.rule_questions ≡ a.rule_questions
  pub pieces : b.piece_reads ≡ a.piece_reads
  pub looked : 0 < length z.transitions → a.reads < b.reads

pub walked_more : {z : Zone} {high : ℤ} {first place : ℕ} {x : Transition} {a b c : Counts} → place < length z.transitions → Walked z high first place a b
    → x ≡ get_or z.transitions place x → x.unix_leap_time ≤ℤ high → c ≡ reads_more b 1 → Walked z high first (place + 1) a c
walked_more within w item le cost = grind (linear, get_or_default)

pub rose_by_walk : (z : Zone) (l low high : ℤ) (first place n : ℕ) (a b c : Counts) → IsWindow z l low high → Between z.transitions low first first
    → place ≤ length z.transitions → Walked z high first place a b → n ≤ 1 → RoseWithin b c n 2 → RoseByWalk z l a c
rose_by_walk z l low high first place n a b c window split within w one r =
    let inside = w.inside in let walked : place ≤ first + length (come_between z.transitions low high) = grind (arith, window_least) in
    record { window = length (come_between z.transitions low high); counted = grind linear; most = grind linear; least = grind arith }
