use Rattle.tz_info.proofs.WallLaws.{window_count_once}
use Rattle.tz_info.proofs.laws.wall_clocks.window_count_law.Goals as goal

pub returns : goal.returns
returns c = window_count_once
