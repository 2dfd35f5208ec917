use Rattle.demo_own_zone.proofs.{Words.{gap_by_seconds, law_of, odd_offset, rules, same_itself}, Walls.{shown_never}}
use Rattle.demo_own_zone.specs.declared.offset.OddOffset.TheVariants.{Even}
use Rattle.demo_own_zone.proofs.zone.OddTimeZone.offset_before_gap.Goals as goal

pub returns-in-Odd : goal.returns-in-Odd
returns-in-Odd c =
    gap_by_seconds odd_offset _ Even (shown_never _ c.args.local.now.in_range.0 (search rules)) (same_itself (law_of c.args.self.now))
