use Rattle.tz_info.proofs.{WalkLaws.Walked, Words.{IsShownIn, IsWallAnswer, begin_of, index_of, length, map_of, ◌<◌, ◌≡◌}}
use Rattle.tz_info.proofs.zone.time_zone.TimeZone.walked_answer.Given as goal

abbrev pub invariant-loop-place : goal.invariant-loop-place
invariant-loop-place l = record {
  found : IsWallAnswer (IsShownIn l.self l.local l.place) (map_of (λ r. r.now) l.answer);
  begin : l.current.unix_leap_time ≡ begin_of l.self.transitions l.place;
  index : l.current.type_index ≡ index_of l.self.transitions l.place;
  listed : l.current.type_index < length l.self.types;
  walked : Walked l.self l.high l.first l.place l.fn.probes l.probes;
}
