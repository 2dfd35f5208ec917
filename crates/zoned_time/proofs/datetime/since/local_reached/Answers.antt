use Rattle.zoned_time.proofs.{Words.{Reading, ap, numbers, ◌∙◌}, CalendarLengths.{reached_before, reached_now}}
use Rattle.zoned_time.proofs.datetime.since.local_reached.Goals as goal

pub returns-then-first_second_at_or_after-timestamp : goal.returns-then-first_second_at_or_after-timestamp
returns-then-first_second_at_or_after-timestamp g c =
    let nanos = c.nanosecond.ensures.value ∙ ap (λ (r : Reading). r.f) c.naive_utc.ensures in
    rw (c.with_nanos.ensures, nanos) (reached_now c.args.instant.now.datetime.in_range.1 c.reached-whole.ensures.reached
    c.first_second_at_or_after.ensures (grind numbers))

pub returns-else-first_second_at_or_after-timestamp : goal.returns-else-first_second_at_or_after-timestamp
returns-else-first_second_at_or_after-timestamp g c =
    rw c.with_nanos-else-first_second_at_or_after-timestamp.ensures (reached_before c.args.instant.now.datetime.in_range.1
    c.reached-whole.ensures.reached c.first_second_at_or_after.ensures (λ same. grind numbers))
