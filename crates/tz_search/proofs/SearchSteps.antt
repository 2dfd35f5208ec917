-- A search among items in order of time: what each of its steps keeps, and what hints say of it.
use Rattle.std.proofs.{Common.◌↔◌, lemmas.{List.{get_or-map as mapped_at}, Nat.le-div}}
use Rattle.tz_search.proofs.{DigitLaws.{digits-half, digits-less, digits-more}, FirstItems.{filter_first, le_false, le_true}}
use Rattle.tz_search.proofs.Words.{AreEnds, AreHints, AreMarked, AreNonDecreasing, AreOrdered, ArePassed, AreRaised, AreRaisedUntil, AreStepsUntil, Ends, Hints}
use Rattle.tz_search.proofs.Words.{IsHinted, IsLeft, IsNarrowedTo, List, Near, RiseFromZero, arith, cases_eq, digits, div-lt_iff_lt-mul, div-mul-le_self}
use Rattle.tz_search.proofs.Words.{filter, get_or, get_or-set_at, get_or-set_other, int_le, item_time, length, length-map, length-set, linear, map, nat_abs}
use Rattle.tz_search.proofs.Words.{nat_cmp, ord_max, pos, pow_pos, refl, set, slice_index, stretch_of, suc, take, zero, ℕ, ℤ, ◌*◌, ◌+ℤ◌, ◌+◌, ◌-ℤ◌, ◌-◌, ◌/◌}
use Rattle.tz_search.proofs.Words.{◌<ℤ◌, ◌<◌, ◌^◌, ◌≡◌, ◌≢◌, ◌≤ℤ◌, ◌≤◌, ◌⊎◌}

-- the time of an item that was read
pub time_read : {A : Type 0} (time : A → ℤ) (items : List A) (place : ℕ) (x : A) → place < length items → x ≡ get_or items place x
    → time x ≡ item_time (map time items) place
time_read time items place x h e = grind (arith, mapped_at time items place x (pos 0))

-- the times of items in order come in order
pub times_ordered : {A : Type 0} (time : A → ℤ) (items : List A) (x : A)
    → ((i j : ℕ) → i < j → j < length items → time (get_or items i x) ≤ℤ time (get_or items j x)) → AreOrdered (map time items)
times_ordered time items x order i j d h l = grind (arith, length-map items time, order i j, mapped_at)

-- the items that have come are the first n
pub first_come : {A : Type 0} (time : A → ℤ) (items : List A) (v : ℤ) (n : ℕ) → ArePassed (map time items) v n
    → filter (λ (x : A). int_le (time x) v) items ≡ take n items
first_come {A = A} time items v n come =
    let same = length-map items time in
    filter_first (λ x. int_le _ v) _ n (omega arith)
    (λ k d l. grind (arith, mapped_at time items k d (pos 0), le_true, come.before k))
    (λ k d l m. grind (arith, mapped_at time items k d (pos 0), le_false, come.after k))

-- no time comes before an earlier one
pub not_before : (times : List ℤ) (i k : ℕ) → AreOrdered times → i ≤ k → k < length times → item_time times i ≤ℤ item_time times k
not_before _ i k ordered h l = grind arith

module _ (times : List ℤ) (v : ℤ) where
  -- all have come once the last has
  pub all_passed : (n : ℕ) (ends : Ends) → AreOrdered times → n ≡ length times → 0 < n → AreEnds times ends
      → ends.last ≤ℤ v → ArePassed times v n
  all_passed n _ ordered e some are le =
      record { within = omega arith; before = λ k h. grind (linear, not_before times k (length times - 1)); after = grind arith }

  -- and none if the first has not
  pub none_passed : (ends : Ends) → AreOrdered times → 0 < length times → AreEnds times ends → v <ℤ ends.first → ArePassed times v 0
  none_passed _ ordered some are lt = grind (linear, not_before times 0)

  -- a look at one that has come
  pub left_later : (first middle high : ℕ) → IsLeft times v first high → middle < high → item_time times middle ≤ℤ v
      → IsLeft times v (middle + 1) high
  left_later first middle high left h le =
      let before : (k : ℕ) → k < middle + 1 → item_time times k ≤ℤ v = λ k l. grind (linear, not_before times k middle) in grind linear

  -- and at one that has not
  pub left_earlier : (first middle high : ℕ) → IsLeft times v first high → first ≤ middle → middle < high
      → v <ℤ item_time times middle → IsLeft times v first middle
  left_earlier _ middle _ left h l lt = grind (linear, not_before times middle)

  -- the same among neighbours, the first of which has come
  pub near_later : (near after : Near) → IsNarrowedTo times v near → near.first ≤ after.first → after.first < near.first + near.count
      → after.first + after.count ≡ near.first + near.count → item_time times after.first ≤ℤ v → IsNarrowedTo times v after
  near_later _ _ n h l e le = grind arith

  pub near_earlier : (near after : Near) (middle : ℕ) → IsNarrowedTo times v near → after.first ≡ near.first → 0 < after.count
      → middle ≤ after.first + after.count → middle < near.first + near.count → after.first + after.count ≤ near.first + near.count
      → v <ℤ item_time times middle → IsNarrowedTo times v after
  near_earlier _ _ middle n e some m l h lt = grind (linear, not_before times middle)

  pub near_one : (near : Near) → near.count ≤ 1 → IsNarrowedTo times v near → ArePassed times v (near.first + 1)
  near_one near h n = record { within = omega arith; before = λ k l. grind (linear, not_before times k near.first); after = grind (arith, n.after) }

-- a halving costs a look
pub digits-halved : (n : ℕ) → 0 < n → digits n ≡ digits (n / 2) + 1
digits-halved zero h = omega arith
digits-halved (suc n) h = grind (arith, digits-half)

-- a search among four items or more may take three probes
pub digits-three : (n : ℕ) → 4 ≤ n → 3 ≤ digits n
unfolding digits
digits-three n h = let four : digits 4 ≡ 3 = refl in let more = digits-more 4 n h in omega arith

-- how many binary digits the number of items that are left has
pub ruleset halving = (digits-halved, digits-three, digits-more, digits-less)

-- two steps among at most half of the items leave room for one look and the steps that are left
pub two_steps : (count left n : ℕ) → 0 < count → 2 * count ≤ n → 4 ≤ n → left ≡ (count - count / 2) - (count - count / 2) / 2
    → 2 + digits (left - 1) + 1 ≤ digits n
two_steps _ _ n some narrow many e = grind (arith, digits-halved, digits-less)

-- ---- hints
-- the latest item is one of those of the hint
pub near_hinted : (times : List ℤ) (v : ℤ) (hints : Hints) (ends : Ends) (seconds : ℕ) (near : Near) → AreOrdered times → length times < 2 ^ 64
    → 0 < length times → AreEnds times ends → AreHints times hints
    → ends.first ≤ℤ v → pos seconds ≡ v -ℤ ends.first → 0 < 2 ^ hints.shift → IsHinted hints.places.items (seconds / 2 ^ hints.shift) near
    → IsNarrowedTo times v near
near_hinted times v hints ends seconds near ordered fits some are h from is positive hinted = grind linear

-- how many seconds one time comes after another
size_of_rise : (first time : ℤ) → first ≤ℤ time → pos (nat_abs (time -ℤ first)) ≡ time -ℤ first
size_of_rise first time h = grind linear

-- items in order, and the time of the first
module _ (times : List ℤ) (first : ℤ) (ordered : AreOrdered times) (from : first ≡ item_time times 0) where
  -- no item comes before it, and none lies in a stretch after that of the last
  pub first_least : (k : ℕ) → k < length times → first ≤ℤ item_time times k
  first_least k l = grind (linear, not_before)

  pub slots : (span shift k : ℕ) → pos span ≡ item_time times (length times - 1) -ℤ first → k < length times
      → stretch_of first (item_time times k) shift ≤ span / 2 ^ shift
  slots span shift k is l = grind (linear, size_of_rise, not_before times k (length times - 1))

-- a time lies in a stretch before that one if it comes before its begin
in_stretch : (first time : ℤ) (shift b : ℕ) → first ≤ℤ time → (stretch_of first time shift < b) ↔ (time <ℤ (first +ℤ pos (b * 2 ^ shift)))
in_stretch first time shift b h = grind (linear, size_of_rise, div-lt_iff_lt-mul, pow_pos)

-- one item more is noted
pub marked_more : (times : List ℤ) (first : ℤ) (shift n stretch : ℕ) (places : List ℕ) → AreMarked times first shift n places
    → stretch ≡ stretch_of first (item_time times n) shift → stretch + 1 < length places → AreMarked times first shift (n + 1) (set places (stretch + 1) n)
marked_more times first shift n stretch places m e h = grind (arith, length-set, cases_eq, get_or-set_at, get_or-set_other)

-- the first n numbers are raised, the greatest of them is known, and the others are as they were
pub record Raising (before after : List ℕ) (greatest n : ℕ) : Type 0 where
  pub raised : AreRaisedUntil before after n
  pub rest : (b : ℕ) → n ≤ b → slice_index after b ≡ slice_index before b
  pub up_to : (j : ℕ) → j < n → slice_index before j ≤ greatest
  pub is : ((n ≡ 0) × (greatest ≡ 0)) ⊎ ((0 < n) × (greatest ≡ slice_index after (n - 1)))

pub raising_more : (before after : List ℕ) (greatest n here : ℕ) → Raising before after greatest n → n < length before → RiseFromZero before
    → (slice_index after n ≡ 0 → here ≡ greatest) × (slice_index after n ≢ 0 → here ≡ slice_index after n)
    → Raising before (set after n here) here (n + 1)
raising_more before after greatest n here r h rise is_here =
    let last = r.raised.some (n - 1) in
    let at : (b : ℕ) → b ≡ n → slice_index (set after n here) b ≡ here = grind (linear, get_or-set_at) in
    let other : (b : ℕ) → b ≢ n → slice_index (set after n here) b ≡ slice_index after b = grind (linear, get_or-set_other) in
    let some : (b : ℕ) → b < n + 1 → (j : ℕ) × (j ≤ b) × (slice_index (set after n here) b ≡ slice_index before j) =
    λ b l. let this = r.raised.some b in grind (linear, cases_eq b n) in grind (arith, length-set)

-- a later time has no earlier stretch
stretch_rise : (first x y : ℤ) (shift : ℕ) → first ≤ℤ x → x ≤ℤ y → stretch_of first x shift ≤ stretch_of first y shift
stretch_rise first x y shift h le =
    grind (linear, size_of_rise, le-div, pow_pos, div-mul-le_self)

-- later stretches have later items
pub marks_rise : (times : List ℤ) (first : ℤ) (shift : ℕ) (marked : List ℕ) → AreOrdered times → first ≡ item_time times 0
    → AreMarked times first shift (length times) marked → RiseFromZero marked
marks_rise times first shift marked ordered from m b j h le some = grind (linear, not_before, first_least, stretch_rise)

-- so none is less than the one before it
pub raised_rising : (before after : List ℕ) → AreRaised before after → AreNonDecreasing after
raised_rising before after r b h = grind (arith, r.some b)

-- one step more
pub steps_more : (numbers : List ℕ) (most n most_after : ℕ) → AreStepsUntil numbers most n → 0 < n
    → most_after ≡ ord_max nat_cmp most (slice_index numbers n - slice_index numbers (n - 1)) → AreStepsUntil numbers most_after (n + 1)
steps_more numbers most n most_after steps some is b h = grind arith

-- the hints at items, by the places that were filled in
pub hints_made : (times : List ℤ) (hints : Hints) (first : ℤ) (span most : ℕ) (marked : List ℕ) → AreOrdered times → 4 ≤ length times → hints.shift < 64
    → first ≡ item_time times 0 → pos span ≡ item_time times (length times - 1) -ℤ first
    → length marked ≡ span / 2 ^ hints.shift + 2 → AreMarked times first hints.shift (length times) marked → AreRaised marked hints.places.items
    → AreStepsUntil hints.places.items most (length hints.places.items) → 2 * (most + 1) ≤ length times → AreHints times hints
hints_made times hints first span most marked ordered many shift from is long m r steps narrow =
    record {
      shift = shift;
      rising = grind (linear, raised_rising);
      places = λ b h.
          let (j, j_le, same) = r.some b (omega arith) in
          rw (← from, same) (record {
            within = grind (linear, in_stretch);
            before = λ l. grind (arith, first_least times first ordered from, in_stretch);
            after = λ k l n.
                let in_k = in_stretch first (item_time times k) hints.shift b (first_least times first ordered from k n) in
                grind (arith, m.latest k n, r.above b (suc (stretch_of first (item_time times k) hints.shift)));
          });
      some = λ h. many;
      narrow = grind (linear, m.of_item, in_stretch);
    }
