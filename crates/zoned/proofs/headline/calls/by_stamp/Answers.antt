use Rattle.tz_info.proofs.Words.{rules}
use Rattle.zoned.proofs.headline.calls.by_stamp.Goals as goal

pub returns : goal.returns
returns g c = record {
  from_utc_datetime = search rules;
  timestamp_opt = search rules;
  timestamp_millis_opt = search rules;
  timestamp_micros = search rules;
  timestamp_nanos = search rules;
}
