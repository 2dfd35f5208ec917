use Rattle.tz_saving.proofs.Words.{SFits, fits, rules, w32}
use Rattle.tz_saving.proofs.saving.flagged_amount.Goals as goal

pub returns-in-Some-Some : goal.returns-in-Some-Some
returns-in-Some-Some c =
    let fu = c.ranges.second in let fa = c.amount_of_two.type_inv in
    let fe : SFits w32 c.in-Some-Some.early = search rules in let fl : SFits w32 c.in-Some-Some.late = search rules in
    simp fits (record {
      early = _;
      late = _;
      candidates = rw (c.in-Some-Some.is-0, c.in-Some-Some.is-1) at (simp fits at c.candidates_at-early.ensures);
      by_candidates = simp fits at c.amount_of_two.ensures;
    })
