-- Amounts of clocks with one stretch of daylight saving time, and how far changes are from one another.
use Rattle.tz_saving.proofs.{AmountLaws.{one_amount}, SideLaws.{after_once, before_once}}
use Rattle.tz_saving.proofs.Words.{At_a_second, Change, FitsSigned, HasChanges, IsAfter, IsAmount, IsBefore, IsByCandidates, IsCandidate, IsChange}
use Rattle.tz_saving.proofs.Words.{IsFirstAfter, IsFound, IsNextCandidate, IsNextUse, IsStandard, LocalType, None, Option, Some, ap, arith, by_lt_z, false}
use Rattle.tz_saving.proofs.Words.{false≢true, inl, inr, ints, pos, refl, subst, suc, sym, true, w64, zero, ℕ, ℤ, neg_ℤ, ◌-ℤ◌, ◌<ℤ◌, ◌∙◌, ◌≡◌, ◌≤ℤ◌}
use Rattle.std.specs.Prelude.{◌+ℤ◌}
use Rattle.tests_pins.specs.Savings.{restless, summer, type_of}

-- candidates of one side are those of another one that has the same standard offsets
candidates_by : (p q : ℤ → Type 0) (offset : ℤ) (found : Option ℤ) → ((s : ℤ) → p s → q s) → ((s : ℤ) → q s → p s) → IsFound (IsCandidate p offset) found
    → IsFound (IsCandidate q offset) found
candidates_by p q offset None to from none = λ a k.
    none a (record { standard = k.standard; of_side = from k.standard k.of_side; difference = k.difference; some = k.some; within = k.within })
candidates_by p q offset (Some a) to from k =
    record { standard = k.standard; of_side = to k.standard k.of_side; difference = k.difference; some = k.some; within = k.within }

flag : (s t : LocalType) → s ≡ t → s.dst ≡ t.dst
flag s t e = ap (λ (x : LocalType). x.dst) e

module _ (from until before during after : ℤ) (order : from <ℤ until) (low : FitsSigned w64 (from -ℤ pos 1)) (high : FitsSigned w64 until) where
  abbrev clocks : ℤ → LocalType → Type 0
  clocks = summer from until before during after

  one : (v : ℤ) (s t : LocalType) → clocks v s → clocks v t → s ≡ t
  one v s t (inl (h, e)) (inl (k, d)) = e ∙ sym d
  one v s t (inl (h, e)) (inr (inl (k, d))) = let l = k.0 in absurd (omega (arith, ints))
  one v s t (inl (h, e)) (inr (inr (k, d))) = absurd (omega (arith, ints))
  one v s t (inr (inl (h, e))) (inl (k, d)) = let l = h.0 in absurd (omega (arith, ints))
  one v s t (inr (inl (h, e))) (inr (inl (k, d))) = e ∙ sym d
  one v s t (inr (inl (h, e))) (inr (inr (k, d))) = let l = h.1 in absurd (omega (arith, ints))
  one v s t (inr (inr (h, e))) (inl (k, d)) = absurd (omega (arith, ints))
  one v s t (inr (inr (h, e))) (inr (inl (k, d))) = let l = k.1 in absurd (omega (arith, ints))
  one v s t (inr (inr (h, e))) (inr (inr (k, d))) = e ∙ sym d

  inside : (v : ℤ) → from ≤ℤ v → v <ℤ until → clocks v (type_of during true)
  inside v l m = inr (inl ((l, m), refl))

  -- no change comes within the stretch
  steady : (c : Change) → IsChange clocks c → from <ℤ c.at → c.at <ℤ until → ⊥
  steady c is l m = is.differ (one (c.at -ℤ pos 1) c.before (type_of during true) is.before (inside (c.at -ℤ pos 1) (omega (arith, ints)) (omega (arith, ints)))
      ∙ sym (one c.at c.after (type_of during true) is.after (inside c.at (omega (arith, ints)) m)))

  not_standard : (v offset : ℤ) → IsStandard clocks offset v → from ≤ℤ v → v <ℤ until → ⊥
  not_standard v offset s l m =
      false≢true (sym s.standard ∙ flag s.type (type_of during true) (one v s.type (type_of during true) s.in_force_then (inside v l m)))

  near_before : (u : ℤ) → u <ℤ until → (n : ℕ) → HasChanges clocks (suc (suc n)) (from -ℤ pos 1) u → ⊥
  unfolding HasChanges
  near_before u lasts n (c, is, l, m, (d, k, i, j, rest)) = steady c is (omega (arith, ints)) (omega (arith, ints))

  near_after : (u : ℤ) → from ≤ℤ u → (n : ℕ) → HasChanges clocks (suc (suc n)) u until → ⊥
  unfolding HasChanges
  near_after u begun n (c, is, l, m, (d, k, i, j, rest)) = steady d k (omega (arith, ints)) (omega (arith, ints))

  before_is : (u : ℤ) → from ≤ℤ u → u <ℤ until → IsBefore clocks u before
  before_is u begun lasts = record {
    at = from -ℤ pos 1;
    before = omega (arith, ints);
    near = λ h. near_before u lasts 63 h;
    is = record { fits = low; type = type_of before false; in_force_then = inl (omega (arith, ints), refl); standard = refl; of_type = refl };
    last = λ v other s l. by_lt_z v from (λ less. omega (arith, ints)) (λ more. absurd (not_standard v other s more (omega (arith, ints))));
  }

  after_is : (u : ℤ) → from ≤ℤ u → u <ℤ until → IsFirstAfter clocks u after
  after_is u begun lasts = record {
    at = until;
    after = (lasts, λ h. near_after u begun 63 h);
    is = record { fits = high; type = type_of after false; in_force_then = inr (inr (omega (arith, ints), refl)); standard = refl; of_type = refl };
    first = λ v other s l. by_lt_z v until (λ less. absurd (not_standard v other s (omega (arith, ints)) less)) (λ more. more);
  }

  -- the type isn't used again
  not_again : (u : ℤ) → from ≤ℤ u → (c : Change) → IsNextUse clocks (type_of during true) u c → ⊥
  not_again u begun c k = by_lt_z c.at until
      (λ less. let l = k.later in steady c k.is (omega (arith, ints)) less)
      (λ more. false≢true (sym (flag c.after (type_of after false) (one c.at c.after (type_of after false) k.is.after (inr (inr (more, refl)))))
      ∙ flag c.after (type_of during true) k.to))

  pub no_next : (u : ℤ) → from ≤ℤ u → (a : ℤ) → IsNextCandidate clocks None (type_of during true) u a → ⊥
  no_next u begun a k = not_again u begun k.change k.next

  pub amount_is : (u : ℤ) → from ≤ℤ u → u <ℤ until → (early late : Option ℤ) (a : ℤ) → IsFound (IsCandidate (λ s. s ≡ before) during) early
      → IsFound (IsCandidate (λ s. s ≡ after) during) late → IsByCandidates (IsNextCandidate clocks None (type_of during true) u) early late a
      → IsAmount clocks None u a
  amount_is u begun lasts early late a e l by =
      let before_of = before_is u begun lasts in let after_of : IsAfter clocks None u after = At_a_second (after_is u begun lasts) in record {
        type = type_of during true;
        in_force_then = inside u begun lasts;
        standard = λ h. absurd (false≢true (sym h));
        flagged = λ h. record {
          early = early;
          late = late;
          candidates = record {
            early_is = candidates_by (λ s. s ≡ before) (IsBefore clocks u) during early (λ s h. subst (IsBefore clocks u) (sym h) before_of)
                (λ s h. before_once clocks one u s before h before_of) e;
            late_is = candidates_by (λ s. s ≡ after) (IsAfter clocks None u) during late (λ s h. subst (IsAfter clocks None u) (sym h) after_of)
                (λ s h. after_once clocks one None u s after h after_of) l;
          };
          by_candidates = by;
        };
      }

  pub only_amount : (u a b : ℤ) → IsAmount clocks None u a → IsAmount clocks None u b → b ≡ a
  only_amount u a b h k = one_amount clocks one None u b a k h

  pub none_later : (u a : ℤ) → until ≤ℤ u → IsAmount clocks None u a → a ≡ pos 0
  none_later u a l h = h.standard (flag h.type (type_of after false) (one u h.type (type_of after false) h.in_force_then (inr (inr (l, refl)))))

  pub zero_later : (u : ℤ) → until ≤ℤ u → IsAmount clocks None u (pos 0)
  zero_later u l = record {
    type = type_of after false;
    in_force_then = inr (inr (l, refl));
    standard = λ e. refl;
    flagged = λ e. absurd (false≢true e);
  }

-- ---- clocks that change each second
restless_one : (v : ℤ) (s t : LocalType) → restless v s → restless v t → s ≡ t
restless_one v s t (inl (h, e)) (inl (k, d)) = e ∙ sym d
restless_one v s t (inl (h, e)) (inr (k, d)) = absurd (omega (arith, ints))
restless_one v s t (inr (h, e)) (inl (k, d)) = absurd (omega (arith, ints))
restless_one v s t (inr (h, e)) (inr (k, d)) = e ∙ sym d

change_of : (v : ℤ) → pos 0 ≤ℤ v → v <ℤ pos 1_000 → (c : Change) × IsChange restless c × (c.at ≡ v)
change_of v low high = by_lt_z (pos 0) v
    (λ later. (
      record { at = v; before = type_of (v -ℤ pos 1) true; after = type_of v true },
      record {
        fits = omega (arith, ints);
        fits_before = omega (arith, ints);
        before = inr (omega (arith, ints), refl);
        after = inr (low, refl);
        differ = λ e. let same : v -ℤ pos 1 ≡ v = ap (λ (t : LocalType). t.offset) e in omega (arith, ints);
      },
      refl,
    ))
    (λ first. (
      record { at = v; before = type_of (pos 0) false; after = type_of v true },
      record {
        fits = omega (arith, ints);
        fits_before = omega (arith, ints);
        before = inl (omega (arith, ints), refl);
        after = inr (low, refl);
        differ = λ e. false≢true (flag (type_of (pos 0) false) (type_of v true) e);
      },
      refl,
    ))

pub many : (n : ℕ) (from to : ℤ) → from <ℤ pos 0 → pos n ≤ℤ (to +ℤ pos 1) → to <ℤ pos 1_000 → HasChanges restless n from to
unfolding HasChanges
many zero from to early enough late = tt
many (suc n) from to early enough late =
    let (c, is, at) = change_of to (omega (arith, ints)) late in
    (c, is, omega (arith, ints), omega (arith, ints), many n from (c.at -ℤ pos 1) early (omega (arith, ints)) (omega (arith, ints)))

-- no two changes come at one second
pub few : (n : ℕ) (to : ℤ) → HasChanges restless (suc n) (neg_ℤ (pos 1)) to → pos n ≤ℤ to
unfolding HasChanges
few zero to (c, is, l, m, rest) = omega (arith, ints)
few (suc n) to (c, is, l, m, rest) = let less = few n (c.at -ℤ pos 1) rest in omega (arith, ints)

restless_standard : (v offset : ℤ) → IsStandard restless offset v → v <ℤ pos 0
restless_standard v offset s = by_lt_z v (pos 0) (λ less. less)
    (λ more. absurd (false≢true (sym s.standard ∙ flag s.type (type_of v true) (restless_one v s.type (type_of v true) s.in_force_then (inr (more, refl))))))

pub near_enough : IsBefore restless (pos 63) (pos 0)
near_enough = record {
  at = neg_ℤ (pos 1);
  before = omega (arith, ints);
  near = λ h. let l = few 64 (pos 63) h in omega (arith, ints);
  is = record {
    fits = omega (arith, ints);
    type = type_of (pos 0) false;
    in_force_then = inl (omega (arith, ints), refl);
    standard = refl;
    of_type = refl;
  };
  last = λ v other s l. let m = restless_standard v other s in omega (arith, ints);
}

pub too_far : IsBefore restless (pos 64) (pos 0) → ⊥
too_far h = h.near (many 65 h.at (pos 64) (restless_standard h.at (pos 0) h.is) (omega (arith, ints)) (omega (arith, ints)))

-- ---- an offset is no candidate for itself
pub no_amount : (offset a : ℤ) → IsCandidate (λ s. s ≡ offset) offset a → ⊥
no_amount offset a k = let same : k.standard ≡ offset = k.of_side in let d = k.difference in k.some (omega (arith, ints))
