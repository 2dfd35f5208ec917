use Rattle.zoned_ref.proofs.{Words.{ap, sym, type_once, ◌∙◌}, Offsets.{type_within}, Walls.{same_law}}
use Rattle.zoned_ref.proofs.time_zone_ref.TimeZoneRef.offset_of.Goals as goal

pub new-requires : goal.new-requires
new-requires c = type_within _ c.args.second _ c.args.self.now.narrow c.requires.in_force

pub returns-clause-offset : goal.returns-clause-offset
returns-clause-offset c =
    let there = c.requires.offsets c.args.second c.requires.second in
    record {
      there = ap (λ t. t.offset) (c.new.ensures.local_type ∙ type_once _ c.args.second _ _ c.requires.in_force there.in_force) ∙ sym there.offset;
      in_force = rw c.new.ensures.local_type c.requires.in_force;
      same_home = same_law _ c.new.result c.new.ensures.zone;
    }
