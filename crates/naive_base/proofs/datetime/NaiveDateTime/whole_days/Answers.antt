use Rattle.naive_base.proofs.{Words.{arith, floors, reading}, Since.{days_early, days_late}}
use Rattle.naive_base.proofs.datetime.NaiveDateTime.whole_days.Goals as goal

pub returns-then-is_earlier_in_day-clause-passed : goal.returns-then-is_earlier_in_day-clause-passed
returns-then-is_earlier_in_day-clause-passed c n =
    let by = days_early (reading c.args.self.now) (reading c.args.base.now) (grind arith) n in
    (λ h. omega (arith, floors, by.0 h, c.number.ensures, c.number-2.ensures, c.date.ensures, c.date-2.ensures), λ h. by.1 (omega (arith, floors, h, c.number.ensures, c.number-2.ensures, c.date.ensures, c.date-2.ensures)))

pub returns-else-is_earlier_in_day-clause-passed : goal.returns-else-is_earlier_in_day-clause-passed
returns-else-is_earlier_in_day-clause-passed c n =
    let by = days_late (reading c.args.self.now) (reading c.args.base.now) (λ e. grind arith) n in
    (λ h. omega (arith, floors, by.0 h, c.number.ensures, c.number-2.ensures, c.date.ensures, c.date-2.ensures), λ h. by.1 (omega (arith, floors, h, c.number.ensures, c.number-2.ensures, c.date.ensures, c.date-2.ensures)))
