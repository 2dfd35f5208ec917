use Rattle.tz_info.specs.Steps.Entries.{AllChange}
use Rattle.tz_info.proofs.{WallPieces.AreOpen, Words.{index_of, length, vec_capacity, zone_in, ◌+◌, ◌-◌, ◌≡◌}}
use Rattle.tz_info.proofs.zone.made.one_pass.pieces_in_one_pass.Given as goal

abbrev pub invariant-loop-place : goal.invariant-loop-place
invariant-loop-place l = record {
  pieces : AreOpen (zone_in l.lists) l.entries l.place l.before (index_of l.entries 0) l.pieces.items l.latest;
  changes : AllChange l.lists.types.now l.entries (l.place - 1);
  room : vec_capacity l.pieces ≡ length l.entries + l.count - 1;
}
