use Rattle.tz_info.proofs.{EntryLaws.AreMadeOf, Words.{length, vec_capacity, vec_len, zone_in, ◌≡◌, ◌≤◌}}
use Rattle.tz_info.proofs.zone.made.change_list.entries_of.Given as goal

abbrev pub invariant-loop-place : goal.invariant-loop-place
invariant-loop-place l = record {
  made : AreMadeOf (zone_in l.lists) l.entries.items l.place;
  count : vec_len l.entries ≤ l.place;
  room : vec_capacity l.entries ≡ length l.lists.transitions.now;
}
