use Rattle.zoned_time.proofs.Words.{SFits, ap, by_lt_z, day_of, last_day, numbers, of_z, pos, rules, to_z, to_z-of_z, w64, zoned, ◌-ℤ◌, ◌<ℤ◌}
use Rattle.zoned_time.proofs.DayEnds.{empty_day, end_of_last_day, told_end}
use Rattle.zoned_time.proofs.zone_days.ZoneDays.end_of_day.Goals as goal

pub returns-in_err-start : goal.returns-in_err-start
returns-in_err-start g c =
    let late : last_day <ℤ day_of c.args.date = by_lt_z last_day (day_of c.args.date) (λ less. less)
    (λ not. absurd (c.in_err-start.ensures (omega numbers, omega numbers))) in
    rw c.from_residual.ensures (end_of_last_day _ _ (g.met.Self.TimeZone.within_day c.args.self.now) late)

pub returns-then-start-next : goal.returns-then-start-next
returns-then-start-next g c =
    let fs : SFits w64 c.in_ok-start.start = search rules in let fn : SFits w64 c.in_ok-start.next = search rules in
    empty_day c.in_ok-start.ensures (simp to_z-of_z at (ap (to_z w64) c.if-start-next.true))

pub returns : goal.returns
returns g c =
    let fs : SFits w64 c.in_ok-start.start = search rules in let fn : SFits w64 c.in_ok-start.next = search rules in
    let ends = c.in_ok-start.ensures.ends.reached.in_zone in let fe : SFits w64 (c.in_ok-start.next -ℤ pos 1) = omega (numbers, ends) in
    told_end (g.Self.TimeZone.law c.args.self.now) (day_of c.args.date) c.in_ok-start.start c.in_ok-start.next (λ d. zoned d) c.instant_at.result
    c.in_ok-start.ensures (λ same. c.if-start-next.false (ap (of_z w64) same)) (simp to_z-of_z at c.instant_at.ensures)
