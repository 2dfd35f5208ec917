use Rattle.tz_info.proofs.Words.{day_time_second, length, map, take, ◌≡◌}
use Rattle.tz_info.proofs.rule.day.DayTime.seconds_by_kind.Given as goal

abbrev pub invariant-loop-kind : goal.invariant-loop-kind
invariant-loop-kind l = record { whole : length l.seconds ≡ 14; found : take l.kind l.seconds ≡ map (day_time_second l.self l.offset) (take l.kind l.places) }
