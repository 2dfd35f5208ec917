use Rattle.tz_info.proofs.{SecondTypes.last_type, ZoneLaws.{type_decided, type_listed, type_not_refused, type_once}}
use Rattle.tz_info.proofs.laws.zone_types_law.Goals as goal

pub returns : goal.returns
returns c = record { once = type_once; apart = type_not_refused; decided = type_decided; listed = type_listed; last = last_type }
