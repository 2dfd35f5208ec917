use Rattle.tz_saving.proofs.{AmountLaws.next_found, Words.to_z-of_z}
use Rattle.tz_saving.proofs.next_use.next_candidate.Goals as goal

pub returns-in-Some : goal.returns-in-Some
returns-in-Some c =
    let next = simp (to_z-of_z, c.ranges.second) at c.in-Some.ensures in
    next_found _ _ _ _ _ _ _ next (simp (to_z-of_z, next.turn.is.fits) at c.candidates_at-early.ensures) c.only_of.ensures
