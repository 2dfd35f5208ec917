use Rattle.naive_base.specs.Since.{AreDaysCounted, AreMonthsCounted}
use Rattle.zoned_time.proofs.{Words.{IsWide, Reading, reading, subst}, CalendarLengths.{last_home}}
use Rattle.zoned_time.proofs.datetime.since.DateTime+Tz.months_and_days_since.Goals as goal

pub returns : goal.returns
returns g c =
    let local = reading c.local_reached-reached.result in let counted = c.months_and_days_since in record {
      local = local;
      wide = c.local_reached-reached.result.in_range.0;
      wide_start = subst (λ (m : Reading). IsWide m.s) c.local.ensures c.local.result.in_range.0;
      last = last_home c.timezone.ensures.offsets c.local_reached-reached.ensures;
      months = subst (λ m. AreMonthsCounted local m counted.result.0) c.local.ensures counted.ensures.months;
      days = subst (λ m. AreDaysCounted local m counted.result.0 counted.result.1) c.local.ensures counted.ensures.days;
    }
