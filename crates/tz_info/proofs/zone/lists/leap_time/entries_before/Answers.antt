use Rattle.tz_info.proofs.{LeapOrder.times_rise, Words.{IsPartitionPoint-from_clause, arith, int_lt, rules}}
use Rattle.tz_info.proofs.zone.lists.leap_time.entries_before.Goals as goal

pub returns : goal.returns
returns c =
    let point = IsPartitionPoint-from_clause (λ e. int_lt e.unix_leap_time c.args.leap_time) _ _ c.partition_point.ensures.partitioned
    (λ i j d h l t. let r = times_rise _ d c.requires i j h l in grind arith) (λ a r q k. search rules) in
    grind arith
