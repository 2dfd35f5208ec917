-- How many entries are passed, the first second at which a leap time has come, and the last second that has a leap time.
use Rattle.std.{proofs.lemmas.Int.clamps, specs.Int.int_min}
use Rattle.tz_info.proofs.{
  LeapOrder.{follow, passed_bounded, split, threshold, threshold_at, threshold_count, times_rise},
  Prefixes.{any_leap, last_taken},
  Words.{AreLeapSeconds, HaveCome, IsLeapTime, IsNear, IsOneStep, LeapSecond, List, SFits, [], arith, by_lt_z, corrections, count_by-le-length, get_or, int_le},
  Words.{last_else, le_is, le_true, length, linear, mapped_at, passed_count, pos, refl, saturate_signed, suc, take, true, w64, zero, ℕ, ℤ, ◌+ℤ◌, ◌+◌, ◌-ℤ◌},
  Words.{◌-◌, ◌<ℤ◌, ◌<◌, ◌↔◌, ◌∷◌, ◌≡◌, ◌≤ℤ◌, ◌≤◌},
}
use Rattle.tz_info.specs.Steps.Starts.{IsLastWithLeapTime}

-- the correction in force after the first k entries
abbrev pub correction_after : List LeapSecond → ℕ → ℤ
correction_after es k = last_else (pos 0) (corrections (take k es))

pub passed_at_most : (es : List LeapSecond) (u : ℤ) → passed_count es u ≤ length es
passed_at_most es u = grind (linear, count_by-le-length, threshold_count)

-- a number limited to 64 bits is on the same side of each second near now
pub saturated : (v u : ℤ) → IsNear u → (saturate_signed w64 v ≤ℤ u) ↔ (v ≤ℤ u)
saturated v u near = grind linear

-- leap seconds in order
module _ (es : List LeapSecond) (d : LeapSecond) (valid : AreLeapSeconds es) where
  one_step : (k : ℕ) → k < length es → IsOneStep (correction_after es k) (correction_after es (suc k))
  one_step zero h = rw (last_taken (λ e. e.correction) _ es _ d h) ((follow es valid).step d (omega arith))
  one_step (suc k) h =
      rw (last_taken (λ e. e.correction) _ es _ d h, last_taken (λ e. e.correction) _ es k d (omega arith))
      (((follow es valid).next k d h).step)

  -- an entry is passed if and only if its time has come with the correction before it
  pub passed_when : (u : ℤ) (k : ℕ) → k < length es → (k < passed_count es u) ↔ (((get_or es k d).unix_leap_time -ℤ correction_after es k) ≤ℤ u)
  passed_when u k h = let t = threshold_at (pos 0) es k d (pos 0) h in grind (linear, split, follow)

  -- more entries are passed at u than come by x
  above_law : (x u y : ℤ) (n c : ℕ) → HaveCome es x n → IsLeapTime es u y → passed_count es u ≡ suc c → n ≤ c → x ≤ℤ y
  above_law x u y n c h l is more =
      let m = passed_at_most es u in let step = one_step c in let s = passed_when u c in let a = h.after c d in grind linear

  -- x is reached at the later of two seconds: the one at which the latest entry is passed, and the one that its correction leads back to
  pub reached_later : (x u y : ℤ) (n : ℕ) → HaveCome es x n → 0 < n → IsLeapTime es u y
      → (x ≤ℤ y) ↔ ((((get_or es (n - 1) d).unix_leap_time -ℤ correction_after es (n - 1)) ≤ℤ u) × ((x -ℤ correction_after es n) ≤ℤ u))
  reached_later x u y n h some l =
      let a = above_law x u y n (passed_count es u - 1) h l in let b = passed_when u (passed_count es u) in
      let m = passed_at_most es u in let q = passed_when u n in let p = passed_when u (n - 1) in grind linear

-- if none has come, the leap time is reached at the same number
pub reached_first : (es : List LeapSecond) (x u y : ℤ) → AreLeapSeconds es → HaveCome es x 0 → IsLeapTime es u y → (x ≤ℤ y) ↔ (x ≤ℤ u)
reached_first es x u y valid h l =
    let m = passed_at_most es u in let p = passed_when es any_leap valid u 0 in
    let a = above_law es any_leap valid x u y 0 (passed_count es u - 1) h l in grind linear

-- ---- the passed entries, by halves
-- the number of passed entries lies from `first` to `high`
pub record ArePassedBetween (es : List LeapSecond) (u : ℤ) (first high : ℕ) : Type 0 where
  pub least : first ≤ passed_count es u
  pub most : passed_count es u ≤ high
  pub within : high ≤ length es

-- no entry comes before 1970
pub since_epoch : (es : List LeapSecond) (k : ℕ) (d : LeapSecond) → AreLeapSeconds es → k < length es → pos 0 ≤ℤ (get_or es k d).unix_leap_time
since_epoch es k d valid h =
    let f = (valid.first d (omega arith)).since_epoch in let r = times_rise es d valid 0 k (omega arith) h in omega linear

pub by_saturated : {P : Type 0} (l s r : ℤ) → SFits w64 l → pos 0 ≤ℤ l → r ≡ saturate_signed w64 s → (int_le l s ≡ true) ↔ P → (int_le l r ≡ true) ↔ P
by_saturated l s r fits some e p = grind (linear, fits, some, le_true, le_is)

-- an entry is passed if and only if its time has come with the correction before it
pub passed_here : (es : List LeapSecond) (u v : ℤ) (k : ℕ) (d : LeapSecond) → AreLeapSeconds es → k < length es → v ≡ correction_after es k
    → (int_le (get_or es k d).unix_leap_time (u +ℤ v) ≡ true) ↔ (k < passed_count es u)
passed_here es u v k d valid h e =
    let p = passed_when es d valid u k h in grind (linear, le_true, le_is)

-- a leap time of a second of 64 bits is one of 64 bits
pub leap_time_fits : (es : List LeapSecond) (u x : ℤ) → SFits w64 u → IsLeapTime es u x → SFits w64 x
leap_time_fits es u x f l = by_count (passed_count es u) refl where
  by_count : (n : ℕ) → passed_count es u ≡ n → SFits w64 x
  by_count zero e = let s = rw e at l.sum in omega linear
  by_count (suc m) e =
      let within = passed_at_most es u in
      let last = last_taken (λ e. e.correction) (pos 0) es m any_leap (omega arith) in
      grind (linear, l.fits m (omega arith), mapped_at (λ (e : LeapSecond). e.correction) es m any_leap (pos 0) (omega arith))

-- ---- the last second that has a leap time
-- the entry at place k is passed at u, and the sum with its correction is beyond 64 bits
abbrev pub Refuses : List LeapSecond → ℕ → ℤ → Type 0
Refuses es k u = (threshold es k ≤ℤ u) × (pos 9_223_372_036_854_775_808 ≤ℤ (u +ℤ get_or (corrections es) k (pos 0)))

-- one of the first k entries refuses each second after that one, and none an earlier one, of 64 bits
pub record AreRefusedAfter (es : List LeapSecond) (k : ℕ) (last : ℤ) : Type 0 where
  pub most : last ≤ℤ pos 9_223_372_036_854_775_807
  pub some : (u : ℤ) → last <ℤ u → u ≤ℤ pos 9_223_372_036_854_775_807 → (j : ℕ) × (j < k) × Refuses es j u
  pub only : (u : ℤ) (j : ℕ) → u ≤ℤ pos 9_223_372_036_854_775_807 → j < k → Refuses es j u → last <ℤ u

-- with the entry at place k, which refuses each second after `by`
pub refused_more : (es : List LeapSecond) (k : ℕ) (old by new : ℤ) → AreRefusedAfter es k old
    → ((u : ℤ) → u ≤ℤ pos 9_223_372_036_854_775_807 → (by <ℤ u) ↔ Refuses es k u) → new ≡ int_min old by → AreRefusedAfter es (k + 1) new
refused_more es k old by new r refuses e = record {
  most = omega (linear, clamps);
  some = λ u h l. by_lt_z old u
      (λ from. let (j, less, is) = r.some u from l in (j, omega arith, is))
      (λ before. (k, omega arith, (refuses u l).0 (omega (linear, clamps))));
  only = λ u j l less is. let o = r.only u j l in let p = refuses u l in grind (linear, clamps);
}

-- and then that one is the last one with a leap time
pub last_with_leap_time : (es : List LeapSecond) (last : ℤ) → AreLeapSeconds es → AreRefusedAfter es (length es) last → IsLastWithLeapTime es last
last_with_leap_time es last valid r = record {
  has = λ u least h. record {
    sum = refl;
    fits = λ k l.
        let m = passed_at_most es u in
        let t = (split _ u es k (follow es valid) (omega arith)).0 l in
        let b = passed_bounded es u k valid l in
        let below : (u +ℤ get_or (corrections es) k (pos 0)) <ℤ pos 9_223_372_036_854_775_808 = by_lt_z _ _ (λ less. less) (λ from.
        let late = let most = r.most in r.only u k (omega linear) (omega arith) (t, from) in omega linear) in omega linear;
  };
  refused = λ u h l.
      let (j, less, is) = r.some u (omega linear) (omega linear) in
      record {
        place = j;
        passed = (split _ u es j (follow es valid) less).1 is.0;
        leaves = λ f. omega linear;
      };
}

-- without leap seconds the leap time of a second is that second
pub own_leap_time : (es : List LeapSecond) (u : ℤ) → length es ≡ 0 → IsLeapTime es u u
own_leap_time [] u none = record { sum = omega linear; fits = λ k h. omega arith }
own_leap_time (e ∷ es) u none = absurd (omega arith)
