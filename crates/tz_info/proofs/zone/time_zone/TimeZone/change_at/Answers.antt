use Rattle.tz_info.proofs.{ChangeSearch.{change_made, none_before, none_here}, Fits.fits, Words.{SFits, TypeAt, w64}, ZoneLaws.{type_not_refused, type_once}}
use Rattle.tz_info.proofs.zone.time_zone.TimeZone.change_at.Goals as goal

pub returns-in_default : goal.returns-in_default
returns-in_default c =
    let fs = c.ranges.second in
    let s = simp fits at c.in_ok-second_before.ensures in
    let fb : SFits w64 c.in_ok-second_before.second_before = rw s.1 s.0 in
    let e = rw s.1 at (simp fits at c.in_default.ensures) in
    none_before (TypeAt c.args.self.now) _ (λ t h. type_not_refused _ _ t h e.0)

pub returns-in_default-find_local_time_type : goal.returns-in_default-find_local_time_type
returns-in_default-find_local_time_type c =
    let fs = c.ranges.second in
    let e = simp fits at c.in_default-find_local_time_type.ensures in
    none_here (TypeAt c.args.self.now) _ (λ t h. type_not_refused _ _ t h e.0)

pub returns : goal.returns
returns c =
    let fs = c.ranges.second in
    let s = simp fits at c.in_ok-second_before.ensures in
    let fb : SFits w64 c.in_ok-second_before.second_before = rw s.1 s.0 in
    let before = rw s.1 at (simp fits at c.in-Ok.ensures) in
    change_made (TypeAt c.args.self.now) _ _ _ _ (type_once _) fs s.0 before
    (simp fits at c.in-Ok-find_local_time_type.ensures) (simp fits at c.change_between.ensures)
