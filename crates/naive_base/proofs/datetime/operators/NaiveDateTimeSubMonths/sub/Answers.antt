use Rattle.naive_base.proofs.{Words.{IsReadingOnDay, arith, day_shown_by, months_of, neg_ℤ, pos, reading}, MonthDates.{mapped_none, months_found}}
use Rattle.naive_base.proofs.datetime.operators.NaiveDateTimeSubMonths.sub.Goals as goal

pub unwrap-requires : goal.unwrap-requires
unwrap-requires c =
    let gives = IsReadingOnDay (reading c.args.self) in
    grind (arith, months_found (λ e. day_shown_by e) gives (λ value e. mapped_none _ value e) (day_shown_by c.args.self) (neg_ℤ (pos (months_of c.args.rhs))))
