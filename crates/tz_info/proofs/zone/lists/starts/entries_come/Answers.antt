use Rattle.tz_info.proofs.{LeapOrder.times_rise, Words.{IsPartitionPoint-from_clause, arith, int_le, rules}}
use Rattle.tz_info.proofs.zone.lists.starts.entries_come.Goals as goal

pub returns-then-not-have_come : goal.returns-then-not-have_come
returns-then-not-have_come c =
    let point = IsPartitionPoint-from_clause (λ e. int_le e.unix_leap_time c.args.leap_time) _ _ c.partition_point.ensures.partitioned
    (λ i j d h l t. let r = times_rise _ d c.requires i j h l in grind arith) (λ a r q k. search rules) in
    grind arith
