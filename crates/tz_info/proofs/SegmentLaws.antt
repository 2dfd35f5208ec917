-- Segments: which one a second lies in, and the type in force there.
use Rattle.tz_base.specs.declared.error.{Error.TheVariants.{FindLocalTimeType}, Expected.TheVariants.{YearThatRuleAnswersIn}}
use Rattle.tz_info.proofs.{
  LeapOrder.leap_sums_rise,
  Prefixes.{Between, any, last_taken, search_found},
  Words.{AreLeapSeconds, AreRising, Err, Error, HasType, IsFromLast, IsLeapTime, IsRefusedBy, IsTypeError, IsValid, List, LocalType, MatchResult, Ok, Result},
  Words.{RuleOrType, Transition, TypeAt, TypeAtLeapTime, TypeIn, Zone, [], ap, arith, begin_of, by_lt_z, by_rule, correction_at, get_or, index_of, least_time},
  Words.{length, length-take, linear, nil_from_length as no_items, passed, pos, refl, segment_of, suc, sym, take, zero, ℕ, ℤ, ◌+ℤ◌, ◌+◌, ◌-ℤ◌, ◌<ℤ◌, ◌<◌, ◌↔◌},
  Words.{◌∙◌, ◌∷◌, ◌≡◌, ◌≤ℤ◌, ◌≤◌},
}

-- no transition comes later than one after it in the list
pub not_later : (ts : List Transition) (i k : ℕ) (d : Transition) → AreRising ts → i ≤ k → k < length ts
    → (get_or ts i d).unix_leap_time ≤ℤ (get_or ts k d).unix_leap_time
not_later ts i k d r h l = grind (linear, r i k d)

-- a second between two neighbours of a list
pub split_count : (ts : List Transition) (x : ℤ) (n : ℕ) → Between ts x n n → length (passed ts x) ≡ n
split_count ts x n b = grind (arith, search_found ts x n n, length-take)

-- transitions that rise are split by a leap time
pub split_at : (ts : List Transition) (x : ℤ) → AreRising ts → (n : ℕ) × Between ts x n n
split_at [] x r = grind linear
split_at (t ∷ ts) x r = by_lt_z x t.unix_leap_time
    (λ later. (0, grind (linear, not_later (t ∷ ts) 0)))
    (λ come. let (n, b) = split_at ts x (λ i j d h l. r (suc i) (suc j) d (omega arith) (omega arith)) in (suc n, grind linear))

pub between_passed : (ts : List Transition) (x : ℤ) (n : ℕ) → AreRising ts → n ≤ length ts → passed ts x ≡ take n ts → Between ts x n n
between_passed ts x n r h e = let (k, b) = split_at ts x r in grind (arith, split_count ts x k b, length-take)

pub segment_is : (z : Zone) (u : ℤ) (n : ℕ) → Between z.transitions (u +ℤ correction_at z.leaps u) n n → segment_of z u ≡ n
unfolding segment_of
segment_is z u n b = split_count _ _ n b

pub segment_at : (z : Zone) (u : ℤ) (n : ℕ) → AreRising z.transitions → segment_of z u ≡ n → Between z.transitions (u +ℤ correction_at z.leaps u) n n
segment_at z u n r e = let (k, b) = split_at _ _ r in rw (sym (segment_is z u k b) ∙ e) at b

pub segment_here : (z : Zone) (u : ℤ) → AreRising z.transitions → Between z.transitions (u +ℤ correction_at z.leaps u) (segment_of z u) (segment_of z u)
segment_here z u r = segment_at z u _ r refl

pub segment_most : (z : Zone) (u : ℤ) → AreRising z.transitions → segment_of z u ≤ length z.transitions
segment_most z u r = (segment_here z u r).within

-- a greater number splits them later
splits_rise : (ts : List Transition) (x y : ℤ) (m n : ℕ) → x ≤ℤ y → Between ts x m m → Between ts y n n → m ≤ n
splits_rise ts x y m n h a b = grind (linear, b.above n any)

-- segments rise with seconds
pub segments_rise : (z : Zone) (u v : ℤ) → AreRising z.transitions → AreLeapSeconds z.leaps → u ≤ℤ v → segment_of z u ≤ segment_of z v
segments_rise z u v r leaps h = splits_rise _ _ _ _ _ (leap_sums_rise _ u v leaps h) (segment_here z u r) (segment_here z v r)

-- a second of a later segment is later
pub later_segment : (z : Zone) (u v : ℤ) → IsValid z → segment_of z u < segment_of z v → u <ℤ v
later_segment z u v valid h = grind (linear, segments_rise)

-- ---- the begin of a segment
begin_suc : (ts : List Transition) (i : ℕ) (d : Transition) → i < length ts → begin_of ts (suc i) ≡ (get_or ts i d).unix_leap_time
begin_suc ts i d h = grind (linear, last_taken)

pub begin_next : (ts : List Transition) (i : ℕ) (d : Transition) → i < length ts → begin_of ts (i + 1) ≡ (get_or ts i d).unix_leap_time
begin_next ts i d h = grind (arith, begin_suc)

pub index_next : (ts : List Transition) (i : ℕ) (d : Transition) → i < length ts → index_of ts (i + 1) ≡ (get_or ts i d).type_index
index_next ts i d h = grind (arith, last_taken)

-- a leap time is in segment i if it comes from the segment's begin on, and before the next transition
pub record IsWithin (ts : List Transition) (i : ℕ) (x : ℤ) : Type 0 where
  pub since : begin_of ts i ≤ℤ x
  pub until : (d : Transition) → i < length ts → x <ℤ (get_or ts i d).unix_leap_time

pub within_of : (ts : List Transition) (i : ℕ) (x : ℤ) → least_time ≤ℤ x → Between ts x i i → IsWithin ts i x
within_of ts zero x h b = grind linear
within_of ts (suc i) x h b = grind (linear, begin_suc ts i any)

come_by : (ts : List Transition) (x : ℤ) (i : ℕ) → AreRising ts → i ≤ length ts → begin_of ts i ≤ℤ x → (k : ℕ) (d : Transition) → k < i
    → (get_or ts k d).unix_leap_time ≤ℤ x
come_by ts x zero r w h k d l = grind linear
come_by ts x (suc i) r w h k d l = grind (linear, begin_suc ts i d, not_later ts k i d)

pub between_of : (ts : List Transition) (i : ℕ) (x : ℤ) → AreRising ts → i ≤ length ts → IsWithin ts i x → Between ts x i i
between_of ts i x r w h = grind (linear, come_by ts x i, not_later ts i)

-- ---- the type in a segment
-- a leap time of the second, which matters only if there are transitions
pub passed_here : (z : Zone) (u x : ℤ) → (0 < length z.transitions → IsLeapTime z.leaps u x)
    → passed z.transitions x ≡ passed z.transitions (u +ℤ correction_at z.leaps u)
passed_here z u x time = grind (arith, no_items)

-- how many transitions have come by it
pub come_by_then : (z : Zone) (u x : ℤ) → (0 < length z.transitions → IsLeapTime z.leaps u x) → length (passed z.transitions x) ≡ segment_of z u
unfolding segment_of
come_by_then z u x time = ap length (passed_here z u x time)

pub come_at_time : (z : Zone) (u x : ℤ) → IsLeapTime z.leaps u x → length (passed z.transitions x) ≡ segment_of z u
come_at_time z u x time = come_by_then z u x (λ _. time)

-- the transition at place k is among those that have come if and only if its time has
pub come_by_time : (ts : List Transition) (x : ℤ) (k : ℕ) (d : Transition) → AreRising ts → k < length ts
    → (suc k ≤ length (passed ts x)) ↔ ((get_or ts k d).unix_leap_time ≤ℤ x)
come_by_time ts x k d rising h =
    let (n, b) = split_at ts x rising in grind (linear, split_count ts x n b)

-- a type at a second of a zone whose transitions rise
module _ (z : Zone) (u : ℤ) (t : LocalType) (r : AreRising z.transitions) where
  taken_in : (i : ℕ) (k : TypeIn z i u t) → passed z.transitions k.type.leap_time ≡ take i z.transitions
  taken_in i k = passed_here z u _ k.type.of_second
      ∙ search_found _ _ i i (omega arith) (segment_at z u i r k.segment)

  -- before the last transition the segment's type is in force
  pub type_before : (i : ℕ) → TypeIn z i u t → i < length z.transitions → HasType z (index_of z.transitions i) t
  type_before i k h = grind (linear, taken_in, length-take)

  -- from the last transition on the rule's, or without a rule the segment's
  pub type_from : TypeIn z (length z.transitions) u t → RuleOrType z u (index_of z.transitions (length z.transitions)) t
  type_from k = grind (linear, taken_in, length-take)

pub type_in_before : (z : Zone) (i : ℕ) (u x : ℤ) (t : LocalType) → IsLeapTime z.leaps u x → Between z.transitions x i i → i < length z.transitions
    → HasType z (index_of z.transitions i) t → TypeIn z i u t
type_in_before z i u x t l b h k = grind (linear, split_count z.transitions x i b, search_found, segment_is z u i)

pub type_in_from : (z : Zone) (u x : ℤ) (t : LocalType) → IsLeapTime z.leaps u x → Between z.transitions x (length z.transitions) (length z.transitions)
    → RuleOrType z u (index_of z.transitions (length z.transitions)) t → TypeIn z (length z.transitions) u t
type_in_from z u x t l b k = grind (linear, split_count z.transitions x (length z.transitions) b, search_found, segment_is z u (length z.transitions))

-- ---- how many have come by a second
pub place_most : (ts : List Transition) (u : ℤ) → AreRising ts → length (passed ts u) ≤ length ts
place_most ts u rising = let (n, b) = split_at ts u rising in grind (arith, split_count ts u n b)

-- the first k have come from the begin of segment k on
pub come_from : (ts : List Transition) (k : ℕ) (u : ℤ) → AreRising ts → 0 < k → k ≤ length ts → (k ≤ length (passed ts u)) ↔ (begin_of ts k ≤ℤ u)
come_from ts zero u rising some within = grind linear
come_from ts (suc k) u rising some within = grind (linear, come_by_time ts u k any, begin_suc ts k any)

pub begins_rise : (ts : List Transition) (k : ℕ) → AreRising ts → 0 < k → k < length ts → begin_of ts k <ℤ begin_of ts (suc k)
begins_rise ts zero rising some within = grind linear
begins_rise ts (suc k) rising some within = grind (linear, begin_suc ts k any, begin_suc ts (suc k) any)

pub places_rise : (ts : List Transition) (u v : ℤ) → AreRising ts → u ≤ℤ v → length (passed ts u) ≤ length (passed ts v)
places_rise ts u v rising h =
    let (m, a) = split_at ts u rising in let (n, b) = split_at ts v rising in
    grind (arith, split_count ts u m a, split_count ts v n b, splits_rise ts u v m n h a b)

-- at the begin of segment k, and a second before the next
pub place_begin : (ts : List Transition) (k : ℕ) → AreRising ts → 0 < k → k ≤ length ts → length (passed ts (begin_of ts k)) ≡ k
place_begin ts k rising some within = grind (linear, place_most ts (begin_of ts k), come_from ts k, come_from ts (suc k), begins_rise ts k)

pub place_before : (ts : List Transition) (k : ℕ) → AreRising ts → k < length ts → length (passed ts (begin_of ts (suc k) -ℤ pos 1)) ≡ k
place_before ts k rising within = grind (linear, come_from ts k, come_from ts (suc k), begins_rise ts k)

-- without transitions the rule is asked, or the zone has no rule
pub without_transitions : {T : Type 0} (view : T → LocalType) (z : Zone) (u : ℤ) (r : Result T Error) → length z.transitions ≡ 0
    → MatchResult r (λ t. RuleOrType z u 0 (view t)) (λ e. (e ≡ FindLocalTimeType YearThatRuleAnswersIn) × IsRefusedBy z.rule u)
    → MatchResult r (λ t. TypeAt z u (view t)) (IsTypeError z u)
without_transitions _ z u (Ok t) e k = record { leap_time = u; of_second = λ p. absurd (omega arith); in_force = grind (arith, no_items) }
without_transitions view z u (Err x) e k = (by_rule u (λ p. absurd (omega arith)) (rw (no_items _ e)) k.1, k.0)

-- with transitions the second's leap time is asked
pub with_transitions : {T : Type 0} (view : T → LocalType) (z : Zone) (u x : ℤ) (r : Result T Error) → IsLeapTime z.leaps u x
    → MatchResult r (λ t. TypeAtLeapTime z u x (view t)) (λ e. (e ≡ FindLocalTimeType YearThatRuleAnswersIn) × IsFromLast z x × IsRefusedBy z.rule u)
    → MatchResult r (λ t. TypeAt z u (view t)) (IsTypeError z u)
with_transitions _ z u x (Ok t) l k = grind arith
with_transitions view z u x (Err e) l k = (by_rule x (λ _. l) k.1 k.2, k.0)
