use Rattle.offset_core.specs.declared.local_result.LocalResult.TheVariants.{Ambiguous}
use Rattle.demo_own_zone.proofs.{Words.{rules, same_itself, wall_by_seconds}, Walls.{shown_twice}}
use Rattle.demo_own_zone.specs.declared.offset.OddOffset.TheVariants.{Even, Odd}
use Rattle.demo_own_zone.proofs.zone.OddTimeZone.offset_from_local_datetime.Goals as goal

pub returns-in-Even : goal.returns-in-Even
returns-in-Even c =
    wall_by_seconds _ _ (Ambiguous Odd Even) (shown_twice _ c.args.local.now.in_range.0 (search rules)) (same_itself _, same_itself _)
