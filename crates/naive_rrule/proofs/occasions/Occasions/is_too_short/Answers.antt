use Rattle.naive_rrule.proofs.Chains.{never_nth}
use Rattle.naive_rrule.proofs.occasions.Occasions.is_too_short.Goals as goal

pub returns : goal.returns
returns c told p l n listed nth =
    never_nth _ _ _ c.times_in.ensures.few p l n (c.are_beyond.ensures told n listed) nth
