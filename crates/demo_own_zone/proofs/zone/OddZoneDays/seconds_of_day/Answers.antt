use Rattle.demo_own_zone.proofs.{Words.{Reading, SFits, ap, numbers, pos, refl, rules, to_z-of_z, w64, ◌+ℤ◌}, OddDays.{ends_of_day}}
use Rattle.demo_own_zone.proofs.zone.OddZoneDays.seconds_of_day.Goals as goal

pub returns : goal.returns
returns c =
    let reached = rw (ap (λ (r : Reading). r.s) c.and_time.ensures.value) at c.first_second_at_or_after-first.ensures in
    let inside = reached.reached.in_zone in
    let ff : SFits w64 c.first_second_at_or_after-first.result = search rules in
    let fl : SFits w64 (c.first_second_at_or_after-first.result +ℤ pos 86_399) = omega (numbers, inside) in
    simp to_z-of_z (ends_of_day _ _ _ c.args.date.in_range reached refl)
