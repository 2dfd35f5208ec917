use Rattle.tz_info.proofs.Words.{rules}
use Rattle.zoned.proofs.headline.calls.in_utc.Goals as goal

pub returns : goal.returns
returns g c = record {
  and_utc = search rules;
  from_timestamp = search rules;
  from_timestamp_secs = search rules;
  from_timestamp_millis = search rules;
  from_timestamp_micros = search rules;
  from_timestamp_nanos = search rules;
}
