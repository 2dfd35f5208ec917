use Rattle.tz_saving.proofs.{AmountLaws.of_two_found, Words.fits}
use Rattle.tz_saving.proofs.saving.amount_of_two.Goals as goal

pub returns-else-early-late : goal.returns-else-early-late
returns-else-early-late c =
    let fu = c.ranges.second in let fe = c.ranges.early in let fl = c.ranges.late in let fa = c.chosen_of.type_inv in
    simp fits (of_two_found _ _ _ _ _ _ _ (simp fits at c.next_candidate.ensures) (simp fits at c.chosen_of.ensures))
