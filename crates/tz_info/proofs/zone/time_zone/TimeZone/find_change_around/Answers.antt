use Rattle.tz_info.proofs.{Fits.fits, FoldLaws.ends_of_fold, Words.{inr, linear}, zone.time_zone.TimeZone.find_change_around.Goals.After-second_showing-last}
use Rattle.tz_info.specs.Steps.Folds.{AreEndsOfFold}
use Rattle.tz_info.proofs.zone.time_zone.TimeZone.find_change_around.Goals as goal

-- the first and the last second that show the local time
ends : (c : After-second_showing-last) → AreEndsOfFold c.args.self.now c.args.local.secs c.second_showing-first.result c.second_showing-last.result
ends c = grind (linear, fits, ends_of_fold)

pub change_back-requires-clause-ends : goal.change_back-requires-clause-ends
change_back-requires-clause-ends c =
    let ff = c.second_showing-first.type_inv in let fe = c.second_showing-last.type_inv in
    simp fits (grind (linear, fits, ends))

pub returns-in-Ambiguous : goal.returns-in-Ambiguous
returns-in-Ambiguous c =
    let fl = c.secs_since_epoch-local.type_inv in
    rw c.copied.ensures (inr (rw c.secs_since_epoch-local.ensures at (simp fits at c.change_back.ensures)))
