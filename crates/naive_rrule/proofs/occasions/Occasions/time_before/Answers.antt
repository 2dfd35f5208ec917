use Rattle.naive_base.proofs.Words.{arith, ints, rules}
use Rattle.naive_plans.proofs.ForCallers.{read_back}
use Rattle.naive_rrule.proofs.{NthTimes.{before_in_period, none_before}, OccasionsBack.{after_all}}
use Rattle.naive_rrule.proofs.occasions.Occasions.time_before.Goals as goal

pub second_before-requires : goal.second_before-requires
second_before-requires c =
    let low = after_all _ _ _ c.requires.one in
    search rules

pub last_until-requires : goal.last_until-requires
last_until-requires c =
    let low = after_all _ _ _ c.requires.one in
    search rules

pub in_period_of-requires-clause-second : goal.in_period_of-requires-clause-second
in_period_of-requires-clause-second c =
    let is = rw (read_back c.ranges.time) at c.second_before.ensures in
    let own = rw (read_back (record { sfits = c.second_before.type_inv }), is) at c.in-Some.ensures in
    let low = after_all _ _ _ own.planned in let before_is = read_back {z = c.in-Some.before} (search rules) in
    rw before_is (omega (arith, ints), omega (arith, ints))

pub in_period_of-requires-clause-time : goal.in_period_of-requires-clause-time
in_period_of-requires-clause-time c =
    let low = after_all _ _ _ c.requires.one in
    rw (read_back c.ranges.time) (omega (arith, ints), omega (arith, ints))

pub returns-in-None : goal.returns-in-None
returns-in-None c =
    let is = rw (read_back c.ranges.time) at c.second_before.ensures in
    none_before c.args.self.now.started.2 c.requires.in_years
    (rw (read_back (record { sfits = c.second_before.type_inv }), is) at c.in-None.ensures)

pub returns-in-Some : goal.returns-in-Some
returns-in-Some c =
    let is = rw (read_back c.ranges.time) at c.second_before.ensures in
    let own = rw (read_back (record { sfits = c.second_before.type_inv }), is) at c.in-Some.ensures in
    let low = after_all _ _ c.in-Some.before own.planned in let before_is = read_back {z = c.in-Some.before} (search rules) in
    before_in_period _ c.args.self.now.started.2 c.requires.in_years own
    (rw (before_is, read_back c.ranges.time) at c.in_period_of.ensures)
