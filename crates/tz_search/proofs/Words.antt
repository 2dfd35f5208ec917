-- The words that the proofs of a search among items in order of time cite, passed on from std and from specs/.
pub use mir.Val.{SFits}
pub use Rattle.std.proofs.{
  Common.{Bool, List, [], add-suc, add-zero, ap, arith, cond, div-lt_iff_lt-mul, div-mul-le_self, drop, false, get_or, inl, inr, int_le, int_lt, length},
  Common.{map, max, mul-le-mul_right, nat_abs, negsuc, option_map, pos, refl, replicate, rules, set, suc, sym, take, to_z-of_z, true, w64, zero},
  Common.{ℕ, ℤ, ◌*◌, ◌++◌, ◌+ℤ◌, ◌+◌, ◌-ℤ◌, ◌-◌, ◌/◌, ◌<ℤ◌, ◌<◌, ◌^◌, ◌∙◌, ◌∷◌, ◌≡◌, ◌≢◌, ◌≤ℤ◌, ◌≤◌, ◌⊎◌},
  lemmas.{Bool.{cases_eq, cases_lt}, Grind.{get_or-set_at}, Int.{ints}},
  lemmas.{List.{get_or-set_other, length-map, length-replicate, length-set, take-append-le, take_all, Sums.{sum_by-cons}}, Nat.{pow_pos}},
}
pub use Rattle.std.specs.{List.{count_by, filter}, Ordering.{nat_cmp, ord_max}, Prelude.{slice_index}}
pub use Rattle.tz_search.specs.{Counts.{Counts}, Digits.{digits_within}}
pub use Rattle.tz_search.specs.Steps.Hints.{AreHints, AreMarked, AreNonDecreasing, AreRaised, AreRaisedUntil, AreStepsUntil, IsHinted, IsLastBefore}
pub use Rattle.tz_search.specs.Steps.{Hints.{RiseFromZero, stretch_of}, Search.{AreEnds, IsLeft, IsNarrowedTo}}
pub use Rattle.tz_search.specs.{Search.{AreOrdered, ArePassed, IsLastOf, item_time}, declared.timeline.{Ends.{Ends}, hints.{Hints.{Hints}, Near.{Near}}}}
unfoldable pub use Rattle.tz_search.specs.Digits.{digits}

-- linear arithmetic on numbers with and without a sign
pub ruleset linear = (arith, ints)
