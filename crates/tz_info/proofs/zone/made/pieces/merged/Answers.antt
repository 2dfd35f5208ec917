use Rattle.tz_info.proofs.{WallPieces.merging_more, Words.{SFits, arith, linear, rules, to_z-of_z, w64}}
use Rattle.tz_info.proofs.zone.made.pieces.merged.Goals as goal

pub loop-step-preserved : goal.loop-step-preserved
loop-step-preserved c =
    let fits : SFits w64 c.next_start-start.result.0 = search rules in
    record {
      merging = merging_more c.requires.first c.requires.last c.loop-step.invariant.merging c.next_start-start.ensures
          (grind (linear, fits))
          (rw (simp to_z-of_z at c.in_ok-piece.ensures) at c.in_ok-push.ensures.items);
      step = let next = c.next_start-start.ensures in grind arith;
    }
