use Rattle.naive_base.proofs.{Words.{IsDateOn, arith, day_of, months_of, neg_ℤ, pos, sym}, MonthDates.{months_found}}
use Rattle.naive_base.proofs.date.operators.NaiveDateSubMonths.sub.Goals as goal

pub unwrap-requires : goal.unwrap-requires
unwrap-requires c = grind (arith, months_found day_of IsDateOn (λ value e. sym e) (day_of c.args.self) (neg_ℤ (pos (months_of c.args.rhs))))
