use Rattle.naive_base.proofs.{Words.{reading}, Since.{counted, fewer_days, none_counted}}
use Rattle.naive_base.specs.Since.{HaveDaysPassed}
use Rattle.naive_base.proofs.datetime.NaiveDateTime.days_or_none.Goals as goal

pub returns-in-Some : goal.returns-in-Some
returns-in-Some c = let l = reading c.args.self.now in let m = reading c.args.start in counted (HaveDaysPassed l m) c.in-Some.days c.in-Some.ensures

pub returns-in-None : goal.returns-in-None
returns-in-None c = let l = reading c.args.self.now in let m = reading c.args.start in none_counted (HaveDaysPassed l m) (fewer_days l m) c.in-None.ensures
