use Rattle.zoned_ref.proofs.Words.{IsReachedAt, IsWithinDay, SFits, arith, ints, off_of, reading, rules, to_z-of_z, w32, w64, ◌+ℤ◌, ◌-ℤ◌}
use Rattle.zoned_ref.proofs.{Days.{reached_ahead}, zone_days.TimeZoneRefZoneDays.reached_offset.Goals.{After-secs_since_epoch}}
use Rattle.zoned_ref.proofs.zone_days.TimeZoneRefZoneDays.reached_offset.Goals as goal

-- how far the local time is ahead
ahead : (c : After-secs_since_epoch)
    → SFits w64 c.find_reached-reached.result × SFits w64 c.secs_since_epoch.result
    × IsWithinDay (c.find_reached-reached.result -ℤ c.secs_since_epoch.result)
    × IsReachedAt (off_of c.args.self.now) (reading c.args.utc.now).s
    ((reading c.args.utc.now).s +ℤ (c.find_reached-reached.result -ℤ c.secs_since_epoch.result))
ahead c =
    let fr : SFits w64 c.find_reached-reached.result = search rules in let fs : SFits w64 c.secs_since_epoch.result = search rules in
    let both = reached_ahead _ _ c.zone-zone.ensures.narrow c.zone-zone.ensures.offsets _ _ _ c.requires c.find_reached-reached.ensures
    c.secs_since_epoch.ensures in
    (fr, fs, both.0, both.1)

pub overflow_sub-result : goal.overflow_sub-result
overflow_sub-result c =
    let (fr, fs, within, reached) = ahead (goal.at.overflow_sub-result c).After-secs_since_epoch in simp to_z-of_z (omega (arith, ints))

pub overflow_cast-result : goal.overflow_cast-result
overflow_cast-result c =
    let (fr, fs, within, reached) = ahead (goal.at.overflow_cast-result c).After-secs_since_epoch in
    let fd : SFits w64 (c.find_reached-reached.result -ℤ c.secs_since_epoch.result) = omega (arith, ints) in
    simp to_z-of_z (omega (arith, ints))

pub returns : goal.returns
returns c =
    let (fr, fs, within, reached) = ahead (goal.at.returns c).After-secs_since_epoch in
    let fd : SFits w64 (c.find_reached-reached.result -ℤ c.secs_since_epoch.result) = omega (arith, ints) in
    let fc : SFits w32 (c.find_reached-reached.result -ℤ c.secs_since_epoch.result) = omega (arith, ints) in
    simp to_z-of_z (within, reached)
