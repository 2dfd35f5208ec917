use Rattle.tz_info.proofs.{Prefixes.StandUntil, Words.{IsTrue, map, ◌↔◌}}
use Rattle.tz_info.proofs.zone.lists.valid.are_transitions.Given as goal

abbrev pub invariant-loop-place : goal.invariant-loop-place
invariant-loop-place g l = IsTrue l.all_stand ↔ StandUntil l.type_count (map g.T.AsTransition.transition l.transitions) l.place
