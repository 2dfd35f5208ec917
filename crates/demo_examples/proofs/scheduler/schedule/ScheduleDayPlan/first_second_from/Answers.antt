use Rattle.std.proofs.Common.{◌≡◌, ◌∙◌, ◌<◌, ◌≤◌, List, ap, arith, get_or, length, refl}
use Rattle.zoned.specs.{NaiveDate.{day_of}, NaiveTime.{second_of}, declared.NaiveTime.{NaiveTime}}
use Rattle.demo_examples.specs.Fires.{RunsOn}
use Rattle.demo_examples.proofs.ListedTimes.{all, more}
use Rattle.demo_examples.proofs.scheduler.schedule.ScheduleDayPlan.first_second_from.Goals as goal

pub loop-time-preserved : goal.loop-time-preserved
loop-time-preserved c =
    let s = c.args.self.now in let n = c.loop-time.time-index in let time = c.time-item.result in
    let is : c.num_seconds_from_midnight.result ≡ second_of (get_or s.times.items n time) =
    c.num_seconds_from_midnight.ensures ∙ ap second_of (c.time-item.is ∙ ap
    (λ (times : List NaiveTime). get_or times n time) c.deref-time-items.ensures.value) in
    let place : n < length s.times.items = omega arith in
    more s (day_of c.args.date) c.args.second n time c.loop-time.first c.earlier-first.result place c.loop-time.invariant
    (rw is at c.earlier-first.ensures.one) (rw is at c.earlier-first.ensures.tried) c.earlier-first.ensures.not_later

pub returns : goal.returns
returns c =
    let runs : RunsOn c.args.self.now.days (day_of c.args.date) = c.if-not-runs_on.ensures.0 refl in
    let whole : length c.args.self.now.times.items ≤ c.loop-time.time-index = omega arith in
    all c.args.self.now (day_of c.args.date) c.args.second c.loop-time.time-index c.loop-time.first whole runs c.loop-time.invariant
