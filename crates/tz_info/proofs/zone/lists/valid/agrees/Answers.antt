use Rattle.tz_info.proofs.{RuleLaws.agrees_if_same, Words.{SFits, refl, rules, slice_get_read, to_z-of_z, w64}}
use Rattle.tz_info.proofs.zone.lists.valid.agrees.Goals as goal

pub returns-in-Ok-find_local_time_type : goal.returns-in-Ok-find_local_time_type
returns-in-Ok-find_local_time_type c =
    let fl : SFits w64 c.args.last.unix_leap_time = search rules in
    let ft : SFits w64 c.in-Ok.time = search rules in
    agrees_if_same _ _ _ _ _ (simp to_z-of_z at c.in-Ok.ensures) _ _ _
    (simp to_z-of_z at c.in-Ok-find_local_time_type.ensures) (slice_get_read _ _ _ _ refl c.requires.index c.index-types-last.is)
    c.is_same_type.ensures
