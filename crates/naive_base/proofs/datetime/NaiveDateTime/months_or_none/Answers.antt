use Rattle.naive_base.proofs.{Words.{reading}, Since.{counted, fewer_months, none_counted}}
use Rattle.naive_base.specs.Since.{HaveMonthsPassed}
use Rattle.naive_base.proofs.datetime.NaiveDateTime.months_or_none.Goals as goal

pub returns-in-Some : goal.returns-in-Some
returns-in-Some c = let l = reading c.args.self.now in let m = reading c.args.base.now in counted (HaveMonthsPassed l m) c.in-Some.months c.in-Some.ensures

pub returns-in-None : goal.returns-in-None
returns-in-None c = let l = reading c.args.self.now in let m = reading c.args.base.now in none_counted (HaveMonthsPassed l m) (fewer_months l m) c.in-None.ensures
