use Rattle.std.specs.Int.{w64}
use Rattle.tz_info.specs.WallClocks.{Shows}
use Rattle.tests_pins.proofs.Words.{LocalType, ap, arith, fits_signed_from_abs, inl, inr, ints, neg_ℤ, pos, refl}
use Rattle.tests_pins.specs.Changes.{at_epoch, cet, utc}
use Rattle.tests_pins.proofs.shown_seconds.reached_after_set_back.Goals as goal

-- the second before clocks are set back
before : Shows (at_epoch cet utc) (pos 3_599) (neg_ℤ (pos 1)) cet
before = record {
  fits = fits_signed_from_abs w64 (neg_ℤ (pos 1)) (omega arith);
  type = inl (omega (arith, ints), refl);
  shown = omega (arith, ints);
}

pub returns-clause-reached : goal.returns-clause-reached
returns-clause-reached c = record {
  at = neg_ℤ (pos 1);
  local_type = cet;
  not_after = omega (arith, ints);
  shown = before;
  last = λ m u s come shows. let shown = shows.shown in elim shows.type [
    | inl h ↦ let same = ap (λ (t : LocalType). t.offset) h.1 in omega (arith, ints, shown, same, h.0)
    | inr h ↦ let same = ap (λ (t : LocalType). t.offset) h.1 in omega (arith, ints, shown, same, come)
  ];
}

pub returns-clause-not_shown : goal.returns-clause-not_shown
returns-clause-not_shown c h = let most = h.last (pos 3_599) (neg_ℤ (pos 1)) cet (omega (arith, ints)) before in omega (arith, ints, most)

pub returns-clause-not_later : goal.returns-clause-not_later
returns-clause-not_later c h = let shown = h.shown.shown in let come = h.not_after in elim h.shown.type [
  | inl k ↦ let same = ap (λ (t : LocalType). t.offset) k.1 in omega (arith, ints, shown, same, k.0)
  | inr k ↦ let same = ap (λ (t : LocalType). t.offset) k.1 in omega (arith, ints, shown, same, come)
]
