use Rattle.std.proofs.Common.{rules}
use Rattle.zoned.proofs.ForCallers.{same_itself, constant_wall}
use Rattle.demo_examples.specs.Nepal.{meaning_of, law_of, ahead_of_utc}
use Rattle.demo_examples.proofs.own_zone.NepalTimeZone.offset_from_local_datetime.Goals as goal

pub returns : goal.returns
returns c = let local = c.args._local.now in
    constant_wall meaning_of c.ahead.result ahead_of_utc local.secs c.ahead.ensures (same_itself (law_of c.args.self.now)) (search rules) local.in_range.0
