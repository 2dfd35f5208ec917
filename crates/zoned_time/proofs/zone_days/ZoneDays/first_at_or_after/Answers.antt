use Rattle.zoned_time.proofs.Words.{Reading, ap, numbers, reading, zoned}
use Rattle.zoned_time.proofs.Days.{out_of_range, told_exact, told_later}
use Rattle.zoned_time.proofs.zone_days.ZoneDays.first_at_or_after.Goals as goal

pub returns-in_err-whole : goal.returns-in_err-whole
returns-in_err-whole g c =
    let none = c.in_err-whole.ensures in rw c.from_residual.ensures (out_of_range {l = reading c.args.local.now} none.1 none.2)

pub returns-then-secs_since_epoch : goal.returns-then-secs_since_epoch
returns-then-secs_since_epoch g c =
    let whole = c.in_ok-whole.ensures in let wall = ap (λ (r : Reading). r.s) c.naive_local.ensures in
    told_exact (g.Self.TimeZone.law c.args.self.now) (reading c.args.local.now) (zoned c.in_ok-whole.whole).utc.s g.Self.Offset.Offset.seconds
    (zoned c.in_ok-whole.whole) (λ d. zoned d) c.from_local_opt.result
    g.met.Self.TimeZone.told whole.first c.in_ok-whole.whole.in_range whole.at (omega numbers)
    (rw c.offset.ensures at c.from_local_opt.ensures)

pub returns-else-secs_since_epoch : goal.returns-else-secs_since_epoch
returns-else-secs_since_epoch g c =
    let whole = c.in_ok-whole.ensures in let wall = ap (λ (r : Reading). r.s) c.naive_local.ensures in
    told_later (reading c.args.local.now) g.met.Self.TimeZone.told whole.first whole.at (λ same. grind numbers)
