use Rattle.tz_saving.proofs.{SideLaws.{after_once, before_found, before_once, found_candidate}, Words.{to_z-of_z, type_once}}
use Rattle.tz_saving.proofs.candidates.candidates_at.Goals as goal

pub returns : goal.returns
returns c = let fits = c.ranges.second in let one = type_once c.args.zone.now in record {
  early_is = found_candidate _ (before_once _ one _) _ _ _ (before_found _ _ _ (simp to_z-of_z at c.nearest_standard-before.ensures))
      c.candidate_of.ensures;
  late_is = found_candidate _ (after_once _ one _ _) _ _ _ (simp to_z-of_z at c.standard_after-after.ensures) c.candidate_of-2.ensures;
}
