use Rattle.zoned.proofs.LawfulZones.{referred}
use Rattle.zoned.proofs.headline.lawful_zone.Goals as goal

pub returns : goal.returns
returns c = referred _ _ c.new.ensures.some c.new.ensures.zone c.new.ensures.offsets
