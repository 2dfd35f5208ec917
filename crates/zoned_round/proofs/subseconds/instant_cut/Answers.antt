use Rattle.zoned_round.proofs.{Words.{ap, arith, neg_ℤ, reading, to_z_pos, w64, ◌∙◌}, Moves.{moved-earlier}}
use Rattle.zoned_round.proofs.subseconds.instant_cut.Goals as goal

pub returns : goal.returns
returns g c =
    let here = c.args.here.datetime in let way = ap neg_ℤ (c.nanoseconds.ensures ∙ to_z_pos w64 _ (omega arith)) in
    let earlier = moved-earlier (reading here) _ c.args.behind here.in_range.1 c.requires way in
    rw earlier at (rw c.unwrap.ensures at c.checked_sub_signed.ensures).1
