use Rattle.tz_info.proofs.{AskedYears.{found_here, of_stretch}, Fits.fits, Words.{arith, to_z-of_z, None, Some}}
use Rattle.tz_info.proofs.rule.alternate.AlternateTime.moment_from.Goals as goal

pub returns-in-Some-clause-nearest : goal.returns-in-Some-clause-nearest
returns-in-Some-clause-nearest c =
    let a = c.args.self.now in
    found_here _ a _ _ c.requires.near _ (of_stretch _ a _ _ _ _ (Some _) (grind (arith, to_z-of_z)) c.in-Some.ensures)

pub moment_beyond-requires-clause-none : goal.moment_beyond-requires-clause-none
moment_beyond-requires-clause-none c =
    let fs = c.ranges.second in
    let fy = c.year.type_inv in
    simp fits (rw c.year.ensures (of_stretch _ c.args.self.now _ _ _
    _ None
    (simp fits at c.stretch_ahead-stretch.ensures) c.in-None.ensures))

pub returns-in-None-clause-nearest : goal.returns-in-None-clause-nearest
returns-in-None-clause-nearest c = grind (arith, to_z-of_z)
