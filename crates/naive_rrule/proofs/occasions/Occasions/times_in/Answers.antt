use Rattle.naive_base.proofs.Words.{arith}
use Rattle.naive_rrule.proofs.{Chains.{none_counted, one_counted}, occasions.Occasions.times_in.Goals.{else-has_second_at, then-has_second_at}}
use Rattle.naive_rrule.proofs.occasions.Occasions.times_in.Goals as goal

pub loop-second-preserved : goal.loop-second-preserved
loop-second-preserved c =
    elim c.if-has_second_at.branch [
      | then-has_second_at w ↦ rw w.counted-is (
        omega arith,
        one_counted _ _ _ c.requires _ _
            c.loop-second.invariant.1,
      )
      | else-has_second_at w ↦ rw w.counted-is (
        omega arith,
        none_counted _ _ _ c.requires _ _
            (λ has. grind (arith, c.has_second_at.ensures.1 has, w.if-has_second_at)) c.loop-second.invariant.1,
      )
    ]
