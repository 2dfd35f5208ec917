use Rattle.tz_info.proofs.{TzFileLaws.{fault_of, first, no_room, only, other_magic}}
use Rattle.tz_info.proofs.zone.time_zone.TimeZone.from_tz_data.Goals as goal

pub returns : goal.returns
returns c =
    let found = rw c.new-cursor.ensures at c.read_zone.ensures.found in
    let fault = rw c.new-cursor.ensures at c.read_zone.ensures.fault in
    record {
      found = found;
      only = only _ _ _ found fault;
      fault = fault_of _ _ _ fault;
      first = first _ _ _ found fault;
      memory = no_room _ _ _ found fault;
      magic = other_magic _ _ _ found fault;
    }
