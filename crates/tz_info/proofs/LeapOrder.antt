-- What follows from leap seconds being valid: the thresholds rise, so the passed entries are the first ones. Leap times rise weakly with
-- Unix times, none is refused near now, and where corrections count 1, 2, 3 and so on each Unix time is that of its leap time.
use Rattle.tz_info.proofs.{
  Prefixes.last_taken,
  Words.{AreCounted, AreLeapSeconds, IsLeapTime, IsLeapTimeRefused, IsNextLeap, IsOneStep, IsUnixTime, LeapSecond, List, [], add-one, ap, arith, by_lt_z, cond},
  Words.{correction_at, correction_before, corrections, count_by, count_by-le-length, filter, filter_first, get_or, get_or_default, int_le, int_lt, ints},
  Words.{last_else, le_false, le_true, length, linear, lt_false, lt_true, mapped_at, neg_ℤ, passed_count, pos, refl, rises, suc, sum_by-cons, sym, take},
  Words.{thresholds, zero, ℕ, ℤ, ◌*◌, ◌+ℤ◌, ◌+◌, ◌-ℤ◌, ◌-◌, ◌<ℤ◌, ◌<◌, ◌↔◌, ◌∙◌, ◌∷◌, ◌≡◌, ◌≤ℤ◌, ◌≤◌},
}

-- the entries may follow an entry of correction p
pub record Follow (p : ℤ) (es : List LeapSecond) : Type 0 where
  pub step : (d : LeapSecond) → 0 < length es → IsOneStep p (get_or es 0 d).correction
  pub next : (i : ℕ) (d : LeapSecond) → suc i < length es → IsNextLeap (get_or es i d) (get_or es (suc i) d)

pub follow : (es : List LeapSecond) → AreLeapSeconds es → Follow (pos 0) es
follow es valid = grind arith

pub follow_tail : (p : ℤ) (e : LeapSecond) (es : List LeapSecond) → Follow p (e ∷ es) → Follow e.correction es
follow_tail p e es f = grind arith

pub threshold_count : (p : ℤ) (es : List LeapSecond) → length (thresholds p es) ≡ length es
threshold_count p [] = refl
threshold_count p (e ∷ es) = ap suc (threshold_count _ es)

pub threshold_at : (p : ℤ) (es : List LeapSecond) (k : ℕ) (d : LeapSecond) (z : ℤ) → k < length es
    → get_or (thresholds p es) k z ≡ (get_or es k d).unix_leap_time -ℤ last_else p (corrections (take k es))
threshold_at p [] k d z h = absurd (omega arith)
threshold_at p (e ∷ es) zero d z h = refl
threshold_at p (e ∷ es) (suc k) d z h = threshold_at _ es k d z (omega arith)

-- the threshold of the entry at place k
abbrev pub threshold : List LeapSecond → ℕ → ℤ
threshold es k = get_or (thresholds (pos 0) es) k (pos 0)

-- the first i entries come before the leap time x, and v is the correction of the last of them
pub record Before (es : List LeapSecond) (x v : ℤ) (i : ℕ) : Type 0 where
  pub value : v ≡ last_else (pos 0) (corrections (take i es))
  pub before : (k : ℕ) (d : LeapSecond) → k < i → (get_or es k d).unix_leap_time <ℤ x

-- leap seconds in order
module _ (es : List LeapSecond) (d : LeapSecond) (valid : AreLeapSeconds es) where
  pub times_rise : (i j : ℕ) → i ≤ j → j < length es → (get_or es i d).unix_leap_time ≤ℤ (get_or es j d).unix_leap_time
  times_rise i j h l =
      rises (λ k. (get_or es k d).unix_leap_time) _ (λ k b. let t = ((follow es valid).next k d b).later in omega linear) i j h l

  pub before_found : (i : ℕ) (x v : ℤ) → i ≤ length es → Before es x v i → (i < length es → x ≤ℤ (get_or es i d).unix_leap_time) → v ≡ correction_before es x
  before_found i x v h p stops =
      rw (filter_first (λ e. int_lt e.unix_leap_time x) es i h
      (λ k f l. lt_true _ x (p.before k f l))
      (λ k f l m. let r = times_rise i k l m in lt_false _ x (grind (linear, get_or_default)))) p.value

  -- the correction before the first entry's own time, and before a later one's
  pub before_first : 0 < length es → correction_before es (get_or es 0 d).unix_leap_time ≡ pos 0
  before_first h =
      sym (before_found 0 _ _ (omega arith)
      (record { value = refl; before = λ k f l. absurd (omega arith) }) (λ _. omega linear))

  pub before_later : (k : ℕ) → k + 1 < length es → correction_before es (get_or es (k + 1) d).unix_leap_time ≡ (get_or es k d).correction
  before_later k h =
      let x = (get_or es (k + 1) d).unix_leap_time in
      sym (before_found (k + 1) x _ (omega arith) (record {
        value = rw (add-one, last_taken (λ e. e.correction) _ es k d (omega arith));
        before = λ j f l.
            let r = times_rise j k (omega arith) (omega arith) in
            let n = (valid.next k d (omega arith)).later in grind (linear, get_or_default);
      }) (λ _. omega linear))

-- ---- leap times
-- how many entries after one of correction p are passed at u
abbrev pub counted_from : ℤ → List LeapSecond → ℤ → ℕ
counted_from p es u = count_by (λ t. int_le t u) (thresholds p es)

abbrev summed : ℤ → List LeapSecond → ℤ → ℤ
summed p es u = u +ℤ last_else p (corrections (take (counted_from p es u) es))

-- a leap second and those after it
module _ (p : ℤ) (e : LeapSecond) (es : List LeapSecond) where
  -- the next threshold comes later
  tail_later : Follow p (e ∷ es) → (d : LeapSecond) → 0 < length es
      → ((e.unix_leap_time -ℤ p) +ℤ pos 2_419_198) ≤ℤ ((get_or es 0 d).unix_leap_time -ℤ e.correction)
  tail_later f d h = grind (linear, f.next 0 d (omega arith), f.step e (omega arith))

  counted : (u : ℤ) → (e.unix_leap_time -ℤ p) ≤ℤ u → counted_from p (e ∷ es) u ≡ suc (counted_from e.correction es u)
  counted u h = sum_by-cons (λ t. cond (int_le t u) 1 0) (e.unix_leap_time -ℤ p) (thresholds e.correction es)
      ∙ rw (le_true _ u h) (omega arith)

  not_counted : (u : ℤ) → u <ℤ (e.unix_leap_time -ℤ p) → counted_from p (e ∷ es) u ≡ counted_from e.correction es u
  not_counted u h = grind (linear, le_false)

-- where u lies before the first threshold no entry is passed
pub none_counted : (p u : ℤ) (es : List LeapSecond) → Follow p es
    → ((d : LeapSecond) → 0 < length es → u <ℤ ((get_or es 0 d).unix_leap_time -ℤ p)) → counted_from p es u ≡ 0
none_counted p u [] f h = refl
none_counted p u (e ∷ es) f h =
    let here = h e (omega arith) in
    not_counted p e es u here ∙ none_counted _ u es (follow_tail p e es f) (λ d l. let t = tail_later p e es f d l in omega linear)

sums_rise : (p u v : ℤ) (es : List LeapSecond) → Follow p es → u ≤ℤ v → summed p es u ≤ℤ summed p es v
sums_rise p u v [] f h = omega linear
sums_rise p u v (e ∷ es) f h =
    let t = follow_tail p e es f in
    by_lt_z u (e.unix_leap_time -ℤ p)
    (λ below. by_lt_z v (e.unix_leap_time -ℤ p)
    (λ under. rw (none_counted p u _ f (λ d l. below), none_counted p v _ f (λ d l. under)) (omega linear))
    (λ above.
    let q = none_counted _ (e.unix_leap_time -ℤ p) es t in
    let r = sums_rise e.correction (e.unix_leap_time -ℤ p) v es t above in
    let s = f.step e (omega arith) in
    let z = none_counted p u (e ∷ es) f (λ d l. below) in grind (linear, counted, tail_later)))
    (λ above. rw (counted p e es u above, counted p e es v (omega linear)) (sums_rise e.correction u v es t h))

pub leap_sums_rise : (es : List LeapSecond) (u v : ℤ) → AreLeapSeconds es → u ≤ℤ v → (u +ℤ correction_at es u) ≤ℤ (v +ℤ correction_at es v)
leap_sums_rise es u v valid h = sums_rise _ u v es (follow es valid) h

-- the passed entries are those whose thresholds are not above u
pub split : (p u : ℤ) (es : List LeapSecond) (k : ℕ) → Follow p es → k < length es → (k < counted_from p es u) ↔ (get_or (thresholds p es) k (pos 0) ≤ℤ u)
split p u [] k f h = absurd (omega arith)
split p u (e ∷ es) k f h = by_lt_z u (e.unix_leap_time -ℤ p)
    (λ below. let z = none_counted p u (e ∷ es) f (λ d m. below) in grind (linear, not_counted, split _ u es (k - 1) (follow_tail p e es f)))
    (λ above. grind (arith, counted, split _ u es (k - 1) (follow_tail p e es f)))

-- the k-th passed entry lies k steps on, and its correction is at most k + 1 away
pub record Bounded (p a u : ℤ) (es : List LeapSecond) (k : ℕ) : Type 0 where
  pub later : (a +ℤ pos (2_419_198 * k)) ≤ℤ u
  pub most : get_or (corrections es) k (pos 0) ≤ℤ (p +ℤ pos (suc k))
  pub least : p ≤ℤ (get_or (corrections es) k (pos 0) +ℤ pos (suc k))

bounded : (p a u : ℤ) (es : List LeapSecond) (k : ℕ) → Follow p es → ((d : LeapSecond) → 0 < length es → a ≤ℤ ((get_or es 0 d).unix_leap_time -ℤ p))
    → k < counted_from p es u → Bounded p a u es k
bounded p a u [] k f h l = absurd (omega arith)
bounded p a u (e ∷ es) zero f h l =
    let t = h e (omega arith) in let d = f.step e (omega arith) in
    let a = (split p u (e ∷ es) 0 f (omega arith)).0 l in grind linear
bounded p a u (e ∷ es) (suc k) f h l =
    let above = (split p u (e ∷ es) 0 f (omega arith)).0 (omega arith) in let t = h e (omega arith) in let d = f.step e (omega arith) in
    let c = counted p e es u above in
    grind (
      arith,
      ints,
      bounded _ (a +ℤ pos 2_419_198) u es k (follow_tail p e es f) (grind (linear, tail_later)) (omega arith),
    )

-- a passed entry of a valid list
pub passed_bounded : (es : List LeapSecond) (u : ℤ) (k : ℕ) → AreLeapSeconds es → k < passed_count es u → Bounded (pos 0) (pos 0) u es k
passed_bounded es u k valid h = bounded _ (pos 0) u es k (follow es valid) (grind linear) h

pub leap_times_answer : (es : List LeapSecond) (u : ℤ) → AreLeapSeconds es → neg_ℤ (pos 10_000_000_000_000) ≤ℤ u
    → u ≤ℤ pos 10_000_000_000_000 → IsLeapTimeRefused es u → ⊥
leap_times_answer es u valid low high r =
    let b = passed_bounded es u _ valid r.passed in grind arith

-- the correction of the last of the first k entries is k
counted_correction : (es : List LeapSecond) (k : ℕ) → AreCounted es → k ≤ length es → last_else (pos 0) (corrections (take k es)) ≡ pos k
counted_correction es zero c h = grind arith
counted_correction [] (suc k) c h = absurd (omega arith)
counted_correction (e ∷ es) (suc k) c h =
    last_taken (λ e. e.correction) (pos 0) (e ∷ es) k e (omega arith)
    ∙ sym (mapped_at (λ e. e.correction) (e ∷ es) k e (pos 0) (omega arith)) ∙ c k (omega arith) ∙ ap pos (add-one k)

pub leap_time_undone : (es : List LeapSecond) (u x v : ℤ) → AreLeapSeconds es → AreCounted es → IsLeapTime es u x → IsUnixTime es x v → v ≡ u
leap_time_undone es u x v valid c a b =
    let n = passed_count es u in
    let m = threshold_count (pos 0) es in
    let l = count_by-le-length (λ t. int_le t u) (thresholds (pos 0) es) in
    let f : filter (λ e. int_lt e.unix_leap_time x) es ≡ take n es =
    filter_first (λ e. int_lt e.unix_leap_time x) es n (omega arith)
    (λ k d j. grind (linear, counted_correction, split (pos 0) u es k (follow es valid) (omega arith), threshold_at (pos 0) es k d (pos 0) (omega arith)))
    (λ k d j i. grind (linear, counted_correction, split (pos 0) u es k (follow es valid) i, threshold_at (pos 0) es k d (pos 0) i)) in
    grind arith
