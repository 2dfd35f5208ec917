use Rattle.naive_base.proofs.{Words.{IsDateOn, arith, day_of, months_of, pos, sym}, MonthDates.{months_found}}
use Rattle.naive_base.proofs.date.operators.NaiveDateAddMonths.add.Goals as goal

pub unwrap-requires : goal.unwrap-requires
unwrap-requires c = grind (arith, months_found day_of IsDateOn (λ value e. sym e) (day_of c.args.self) (pos (months_of c.args.rhs)))
