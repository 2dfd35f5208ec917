use Rattle.std.proofs.Common.{rules}
use Rattle.zoned.proofs.ForCallers.{constant_no_gap}
use Rattle.demo_examples.specs.Nepal.{meaning_of, ahead_of_utc}
use Rattle.demo_examples.proofs.own_zone.NepalTimeZone.offset_before_gap.Goals as goal

pub returns : goal.returns
returns c = let local = c.args._local.now in
    constant_no_gap meaning_of ahead_of_utc local.secs (search rules) local.in_range.0
