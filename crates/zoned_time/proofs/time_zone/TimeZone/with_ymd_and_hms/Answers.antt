use Rattle.zoned_time.proofs.Words.{ap, casts, clock_second, day_number, day_of, inner_date, numbers, pos, reading, to_z-of_z, ◌*ℤ◌, ◌+ℤ◌, ◌≡◌}
use Rattle.zoned_time.proofs.time_zone.TimeZone.with_ymd_and_hms.Goals as goal

pub returns-in-Some-and_hms_opt-clause-fixed : goal.returns-in-Some-and_hms_opt-clause-fixed
returns-in-Some-and_hms_opt-clause-fixed g c = λ fixed inner date clock.
    let a = c.args in
    let ahead = g.met.Self.TimeZone.within_day a.self.now (pos 0) (omega numbers, omega numbers) in
    let around = inner_date a.year a.month a.day inner date in let fits = c.ranges.year in
    let made = simp to_z-of_z at c.in-Some.ensures.value in
    let day : day_of c.in-Some.date ≡ day_number a.year a.month a.day = made.2 in
    let second : (reading c.in-Some-and_hms_opt.local).s ≡ day_of c.in-Some.date *ℤ pos 86_400 +ℤ pos (clock_second a.hour a.min a.sec) =
    ap (λ r. r.s) c.in-Some-and_hms_opt.ensures.value.2 in
    c.from_local_datetime.ensures.fixed fixed (omega (numbers, ahead, around, clock), omega (numbers, ahead, around, clock))

pub returns-in-Some-and_hms_opt-clause-exists : goal.returns-in-Some-and_hms_opt-clause-exists
returns-in-Some-and_hms_opt-clause-exists g c = grind casts

pub returns-in-Some-and_hms_opt-clause-missing : goal.returns-in-Some-and_hms_opt-clause-missing
returns-in-Some-and_hms_opt-clause-missing g c = grind casts
