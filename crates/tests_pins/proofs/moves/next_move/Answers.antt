use Rattle.naive_base.specs.Stamp.{of_secs}
use Rattle.tests_pins.specs.{Days.{plain_law}, Plans.{daily}}
use Rattle.zoned_time.specs.Zoned.{Zoned}
use Rattle.zoned_plans.specs.{Moves.{IsNextMove, utc_of_move}, declared.moves.Move.{Move, TheVariants.{Added, Removed}}}
use Rattle.tests_pins.proofs.{SetFires.{InSpring}, SetMoves.{Always, first_only, none_before}}
use Rattle.tests_pins.proofs.Words.{ap, arith, inl, inr, ints, neg_ℤ, pos, refl, sym, ℤ, ◌∙◌, ◌≡◌, ◌≤ℤ◌}
use Rattle.tests_pins.proofs.moves.next_move.Goals as goal

-- it comes at that second
at_noon : (old new : ℤ → ℤ) (until : ℤ) (found : Move (Zoned ℤ) (Zoned ℤ)) → InSpring old → Always new
    → IsNextMove (plain_law old) (plain_law new) (daily 43_200) (λ z. z) (λ z. z) (pos 1_615_654_800) until found
    → pos 1_615_737_600 ≤ℤ (utc_of_move (λ z. z) (λ z. z) found).s × ((utc_of_move (λ z. z) (λ z. z) found).s ≤ℤ pos 1_615_737_600)
at_noon old new until (Removed d) set always h = (
  none_before old new d.utc.s set always (inl h.move.0) h.after,
  h.none_skipped (pos 1_615_737_600) (inl (first_only old new set always)) (omega (arith, ints)),
)
at_noon old new until (Added d) set always h = (
  none_before old new d.utc.s set always (inr h.move.0) h.after,
  h.none_skipped (pos 1_615_737_600) (inl (first_only old new set always)) (omega (arith, ints)),
)

there : (old : ℤ → ℤ) (d : Zoned ℤ) → InSpring old → d.utc.s ≡ pos 1_615_737_600 → d.offset ≡ neg_ℤ (pos 14_400) → d.offset ≡ old d.utc.s
there old d set s offset = let now = set.from d.utc.s (omega (arith, ints, s)) in omega (arith, ints, now, offset)

pub returns : goal.returns
returns c = record {
  removed = λ old new d set always utc offset.
      let s : d.utc.s ≡ pos 1_615_737_600 = ap (λ r. r.s) utc in
      record {
        move = (
          rw s (first_only old new set always),
          record {
            utc = utc ∙ ap (λ (k : ℤ). of_secs k 0) (sym s);
            offset = record {
              there = there old d set s offset;
              in_force = there old d set s offset;
              same_home = record { offsets = λ u _. refl; in_force = λ u _ o. ((λ h. h), (λ h. h)) };
            };
          },
        );
        after = omega (arith, ints, s);
        not_after = omega (arith, ints, s);
        none_skipped = λ v move after. let late = none_before old new v set always move after in omega (arith, ints, s, late);
      };
  only = λ old new found set always h. let (least, most) = at_noon old new _ found set always h in omega (arith, ints, least, most);
  added = λ old new d set always h.
      let (least, most) = at_noon old new _ (Added d) set always h in
      let s : d.utc.s ≡ pos 1_615_737_600 = omega (arith, ints, least, most) in
      (rw s at h.move.0).1 (first_only old new set always).0;
  until = λ old new found set always h.
      let (least, most) = at_noon old new _ found set always h in let not_after = h.not_after in omega (arith, ints, least, not_after);
  other_offset = λ old new d until set always offset h.
      let (least, most) = at_noon old new _ (Removed d) set always h in
      let now = set.from d.utc.s (omega (arith, ints, least)) in let is = h.move.1.offset.there in omega (arith, ints, now, is, offset);
}
