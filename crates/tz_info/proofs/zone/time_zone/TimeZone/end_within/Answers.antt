use Rattle.tz_info.proofs.{
  Fits.fits,
  ShownSecondLaws.{found_in_run, goes_on, leaves_less},
  Words.{SFits, arith, ints, rules, w64, ◌-ℤ◌, ◌≡◌},
  zone.time_zone.TimeZone.end_within.Goals.After-second_showing-before,
}
use Rattle.tz_info.proofs.zone.time_zone.TimeZone.end_within.Goals as goal

-- the seconds between which a clock of the run's type shows a local time of the stretch
between : (c : After-second_showing-before)
    → SFits w64 c.args.from × SFits w64 c.args.until × SFits w64 c.second_showing-since.result × SFits w64 c.second_showing-before.result
    × (c.second_showing-since.result ≡ c.args.from -ℤ c.next_run.result.1.now.offset)
    × (c.second_showing-before.result ≡ c.args.until -ℤ c.next_run.result.1.now.offset)
between c = let ff = c.ranges.from in let fu = c.ranges.until in grind (arith, rules)

pub loop-left-smaller : goal.loop-left-smaller
loop-left-smaller c =
    rw (c.without-left.ensures.low, c.without-left.ensures.high) (leaves_less _ _ _ _ _ (omega (arith, ints)) c.next_run.ensures.run)

pub loop-left-preserved : goal.loop-left-preserved
loop-left-preserved c =
    let (ff, fu, fs, fb, since, before) = between (goal.at.loop-left-preserved c).After-second_showing-before in
    let none = rw (since, before) at (simp fits at c.in_default.ensures) in
    simp fits (rw (c.without-left.ensures.low, c.without-left.ensures.high) (goes_on _ _ _
    (simp fits at c.loop-left.invariant) c.next_run.ensures.one_type _ c.next_run.ensures.run none))

pub returns-in-Some : goal.returns-in-Some
returns-in-Some c =
    let (ff, fu, fs, fb, since, before) = between (goal.at.returns-in-Some c).After-second_showing-before in
    let fi : SFits w64 c.in-Some.at = search rules in
    let found = rw (since, before) at (simp fits at c.in-Some.ensures) in
    simp fits (found_in_run _ _ _ (simp fits at c.loop-left.invariant) c.next_run.ensures.one_type _ _ fi c.next_run.ensures.run found.0 found.1)
