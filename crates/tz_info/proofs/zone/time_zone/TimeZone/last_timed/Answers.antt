use Rattle.tz_info.proofs.{Fits.fits, TypedLaws.timed, Words.{SFits, arith, length, rules, w64, ◌<◌}}
use Rattle.tz_info.proofs.zone.time_zone.TimeZone.last_timed.Goals as goal

pub returns : goal.returns
returns c =
    let fl : SFits w64 c.last.result = search rules in
    let some : 0 < length c.args.self.now.transitions = grind arith in
    rw (← c.self.view_is) (simp fits (timed _ _ (rw (← c.self.view_is) at some) c.last.ensures.valid fl c.last.ensures.last))
