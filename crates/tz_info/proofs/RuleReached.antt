-- What the clocks of a rule show from a second on: the last local time up to another second, and the first second at or after a local time.
use Rattle.std.{proofs.lemmas.Int.clamps, specs.Int.int_max}
use Rattle.tz_base.specs.declared.change.Change.{Change}
use Rattle.tz_info.proofs.{
  CalmYears.{still, unchanged},
  Words.{Alternate, AlternateAt, Bool, HasNoChange, IsAhead, IsAlternateRule, IsNear, IsNearestChange, IsUtOffset, IsWide, LocalType, RuleAt, Shows},
  Words.{ShowsAtOrAfter, ap, by_lt_z, false, inl, inr, linear, pos, sym, true, type_when, ℤ, ◌+ℤ◌, ◌-ℤ◌, ◌<ℤ◌, ◌∙◌, ◌≡◌, ◌≤ℤ◌, ◌⊎◌},
}
use Rattle.tz_info.specs.{
  Steps.Since.{IsFirstSince, IsReachedSince},
  declared.rule.transition_rule.TransitionRule.TheVariants.{Alternate as AlternateRule, Fixed},
}

-- of two types that differ each type of the rule is one
two_types : (a : Alternate) (x y z : Bool) → (type_when a y ≡ type_when a z → ⊥) → (type_when a x ≡ type_when a y) ⊎ (type_when a x ≡ type_when a z)
two_types a x y z differ = grind linear

-- ---- the last local time
module _ (a : Alternate) (begin t l : ℤ) (s : LocalType) (rule : IsAlternateRule a) (wide : IsWide t) (order : begin ≤ℤ t) (here : AlternateAt a t s)
    (offset : IsUtOffset s.offset) where
  -- it is shown at the second
  reached_now : l ≡ t +ℤ s.offset → ((m u : ℤ) (r : LocalType) → begin ≤ℤ u → u ≤ℤ t → Shows (RuleAt (AlternateRule a)) m u r → m ≤ℤ l)
      → IsReachedSince (RuleAt (AlternateRule a)) begin t l
  reached_now is last = record {
    at = t;
    local_type = s;
    near = omega (linear, wide);
    from = order;
    not_after = omega linear;
    shown = record { fits = omega (linear, wide); type = here; shown = sym is };
    last = last;
    least = omega linear;
  }

  -- by one type a later second shows more
  shows_less : (m u v : ℤ) (r q : LocalType) → Shows (RuleAt (AlternateRule a)) m u r → r ≡ q → u ≤ℤ v → m ≤ℤ (v +ℤ q.offset)
  shows_less m u v r q shows same come = grind linear

  -- clocks haven't changed since the first second
  pub still_reached : l ≡ t +ℤ s.offset → HasNoChange (AlternateAt a) (λ w. (begin <ℤ w) × (w ≤ℤ t)) → IsReachedSince (RuleAt (AlternateRule a)) begin t l
  still_reached is none = reached_now is
      (λ m u r from come shows.
      let same = unchanged a rule u t r s (λ d change i. none d change (omega linear, i.1)) shows.type here come in grind linear)

  -- the last change
  module _ (c : Change) (last : IsNearestChange false (AlternateAt a) (IsAhead false t) c) where
    -- since the change clocks show at most what they show at the second, and before it at most what they showed just before it
    at_most : (m u : ℤ) (r : LocalType) → u ≤ℤ t → Shows (RuleAt (AlternateRule a)) m u r → (m ≤ℤ (t +ℤ s.offset)) ⊎ (m ≤ℤ ((c.at -ℤ pos 1) +ℤ c.before.offset))
    at_most m u r come shows =
        let since : (v : ℤ) (x : LocalType) → c.at ≤ℤ v → v ≤ℤ t → AlternateAt a v x → x ≡ s = λ v x from until there.
        unchanged a rule v t x s (λ d change i. let k = last.nearest d change i.1 in let j = i.0 in omega (linear, from)) there here until in
        let there : AlternateAt a u r = shows.type in let old_or_new : (r ≡ c.before) ⊎ (r ≡ c.after) = grind (linear, two_types) in
        by_lt_z u c.at
        (λ earlier. elim old_or_new [
          | inl old ↦ inr (shows_less m u _ r _ shows old (omega (linear, earlier)))
          | inr new ↦ inl (shows_less m u t r s shows (new ∙ since _ c.after (omega linear) last.inside last.is.after) come)
        ])
        (λ not. inl (shows_less m u t r s shows (since u r not come shows.type) come))

    -- the later of the two
    pub changed_reached : IsUtOffset c.before.offset → l ≡ int_max (t +ℤ s.offset) ((c.at -ℤ pos 1) +ℤ c.before.offset) → begin <ℤ c.at
        → IsReachedSince (RuleAt (AlternateRule a)) begin t l
    changed_reached offset_before is since =
        let all : (m u : ℤ) (r : LocalType) → begin ≤ℤ u → u ≤ℤ t → Shows (RuleAt (AlternateRule a)) m u r → m ≤ℤ l =
        λ m u r from come shows. omega (linear, clamps, at_most m u r come shows, is) in
        by_lt_z (t +ℤ s.offset) ((c.at -ℤ pos 1) +ℤ c.before.offset)
        (λ more. record {
          at = c.at -ℤ pos 1;
          local_type = c.before;
          near = omega (linear, wide, more, offset, offset_before);
          from = omega (linear, since);
          not_after = omega linear;
          shown = record { fits = last.is.fits_before; type = last.is.before; shown = omega (linear, clamps, is, more) };
          last = all;
          least = omega (linear, clamps, is, offset);
        })
        (λ not. reached_now (omega (linear, clamps, is, not)) all)

-- ---- the first second
pub fixed_first : (s : LocalType) (begin local u : ℤ) → IsWide local → begin ≤ℤ pos 10_000_000_000_000 → IsUtOffset s.offset
    → u ≡ int_max begin (local -ℤ s.offset) → IsFirstSince (RuleAt (Fixed s)) begin local u s
fixed_first s begin _ u wide near offset is = grind (linear, clamps)

-- clocks show less before the later of the begin and the first second at the greater offset
module _ (a : Alternate) (begin local low : ℤ) (rule : IsAlternateRule a) (low_is : low ≡ int_max begin (local -ℤ int_max a.std.offset a.dst.offset)) where
  most : (b : Bool) → (type_when a b).offset ≤ℤ int_max a.std.offset a.dst.offset
  most b = grind (linear, clamps)

  greatest : (b : Bool) × (int_max a.std.offset a.dst.offset ≡ (type_when a b).offset)
  greatest = grind (linear, clamps)

  less_before : (v : ℤ) (r : LocalType) → begin ≤ℤ v → ShowsAtOrAfter (RuleAt (AlternateRule a)) local v r → low ≤ℤ v
  less_before v r from shows = grind (linear, clamps, most)

  -- from there on, as long as clocks don't change, they show it from the second `shown` on
  module _ (s : LocalType) (here : AlternateAt a low s) (shown : ℤ) (shown_is : shown ≡ int_max low (local -ℤ s.offset)) where
    shown_from : (v : ℤ) (r : LocalType) → begin ≤ℤ v → ShowsAtOrAfter (RuleAt (AlternateRule a)) local v r
        → HasNoChange (AlternateAt a) (λ w. (low <ℤ w) × (w ≤ℤ v))
        → shown ≤ℤ v
    shown_from v r from shows none =
        let come = less_before v r from shows in
        let e = ap (λ (x : LocalType). x.offset) (unchanged a rule low v s r none here shows.type come) in omega (linear, clamps, come, e, shown_is)

    -- if they don't change up to then, it is that second
    pub still_first : IsNear low → IsNear shown → HasNoChange (AlternateAt a) (λ w. (low <ℤ w) × (w ≤ℤ shown))
        → IsFirstSince (RuleAt (AlternateRule a)) begin local shown s
    still_first near_low near none =
        let type = still a rule low shown s none here (omega (linear, near)) (omega (linear, clamps)) in
        record {
          near = near;
          from = omega (linear, clamps);
          shown = record { fits = omega (linear, near); type = type; reached = omega (linear, clamps) };
          first = λ v r begun shows. by_lt_z v shown
              (λ earlier. shown_from v r begun shows (λ d change i. none d change (i.0, omega (linear, i, earlier)))) (λ not. not);
        }

    -- else it is the change
    pub changed_first : (c : Change) → IsNear low → IsNear shown → IsNearestChange true (AlternateAt a) (IsAhead true low) c → c.at ≤ℤ shown
        → IsFirstSince (RuleAt (AlternateRule a)) begin local c.at c.after
    changed_first c near_low near next come =
        let inside = next.inside in
        let none : (v : ℤ) → v <ℤ c.at → HasNoChange (AlternateAt a) (λ w. (low <ℤ w) × (w ≤ℤ v)) = λ v less d change i.
        let k = next.nearest d change i.0 in let j = i.1 in omega (linear, k, j, less) in
        let before : s ≡ c.before =
        unchanged a rule low (c.at -ℤ pos 1) s c.before (none (c.at -ℤ pos 1) (omega linear)) here next.is.before (omega (linear, inside)) in
        let (b, is) = greatest in
        let other = two_types a b next.is.before.dst next.is.after.dst
        (λ same. next.is.differ (next.is.before.shown ∙ same ∙ sym next.is.after.shown)) in
        let shown_after = next.is.after.shown in let shown_before = next.is.before.shown in
        let reached : int_max a.std.offset a.dst.offset ≡ c.after.offset = grind (linear, clamps) in
        record {
          near = omega (linear, near_low, inside, near, come);
          from = omega (linear, clamps, inside);
          shown = record { fits = next.is.fits; type = next.is.after; reached = omega (linear, clamps, inside, reached) };
          first = λ v r begun shows. by_lt_z v c.at
              (λ earlier. let late = shown_from v r begun shows (none v earlier) in omega (linear, late, come)) (λ not. not);
        }
