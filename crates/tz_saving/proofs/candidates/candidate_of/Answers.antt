use Rattle.tz_saving.proofs.Words.{SFits, fits, linear, rules, w32}
use Rattle.tz_saving.proofs.candidates.candidate_of.Goals as goal

pub returns-then-is_amount : goal.returns-then-is_amount
returns-then-is_amount c =
    let fs : SFits w32 c.in-Some.standard = search rules in
    let amount = c.is_amount.ensures.0 c.if-is_amount.true in record {
      standard = _;
      of_side = c.in-Some.is;
      difference = rw (← c.offset.ensures.value) (omega linear);
      some = grind (linear, fits);
      within = grind (linear, fits);
    }
