use Rattle.tz_info.proofs.LeapOrder.{leap_sums_rise, leap_time_undone, leap_times_answer}
use Rattle.tz_info.proofs.laws.leap_times_law.Goals as goal

pub returns-clause-rise : goal.returns-clause-rise
returns-clause-rise c = λ es u v x y valid h a b. rw (a.sum, b.sum) (leap_sums_rise es u v valid h)

pub returns-clause-near : goal.returns-clause-near
returns-clause-near c = leap_times_answer

pub returns-clause-undone : goal.returns-clause-undone
returns-clause-undone c = leap_time_undone
