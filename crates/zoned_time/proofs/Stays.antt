-- An instant that is made of one of a zone is one of that zone.
use Rattle.zoned_time.proofs.Words.{IsInRange, IsOffsetAt, IsOnlyWhere, Law, Meaning, Option, Reading, Some, Zoned, arith, home_law, numbers, ℤ}

-- the zone that an offset came from gives what its own zone gives
pub stays : {O : Type 0} {m : Meaning O} (law : Law m) (u v : ℤ) (o p : O) → IsInRange v
    → IsOffsetAt law u o → IsOffsetAt (home_law m o) v p → IsOffsetAt law v p
stays = grind arith

-- the only instant that shows some local date-time has the offset of the zone
pub only_where_in : {O : Type 0} {m : Meaning O} (law : Law m) (l : Option Reading) (d : Zoned O) → IsOnlyWhere law l (Some d)
    → IsOffsetAt law d.utc.s d.offset
only_where_in = grind numbers

pub ruleset in_zone = (stays, only_where_in)
