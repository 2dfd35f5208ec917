use Rattle.tz_info.proofs.Words.{rules}
use Rattle.zoned.proofs.headline.calls.by_clock.Goals as goal

pub returns : goal.returns
returns g c = record {
  from_local_datetime = c.from_local_datetime.ensures.instants;
  and_local_timezone = search rules;
  resolve = c.resolve.ensures;
  with_ymd_and_hms = record { exists = search rules; missing = search rules };
}
