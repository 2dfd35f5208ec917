use Rattle.naive_base.proofs.{Words.{arith, floors, reading}, Since.{months_early, months_late}}
use Rattle.naive_base.proofs.datetime.NaiveDateTime.whole_months.Goals as goal

pub returns-then-is_earlier_in_month-clause-passed : goal.returns-then-is_earlier_in_month-clause-passed
returns-then-is_earlier_in_month-clause-passed c n =
    let by = months_early (reading c.args.self.now) (reading c.args.base.now) (grind arith) n in
    (λ h. omega (arith, floors, by.0 h, c.month_number.ensures, c.month_number-2.ensures), λ h. by.1 (omega (arith, floors, h, c.month_number.ensures, c.month_number-2.ensures)))

pub returns-else-is_earlier_in_month-clause-passed : goal.returns-else-is_earlier_in_month-clause-passed
returns-else-is_earlier_in_month-clause-passed c n =
    let by = months_late (reading c.args.self.now) (reading c.args.base.now) (λ e. grind arith) n in
    (λ h. omega (arith, floors, by.0 h, c.month_number.ensures, c.month_number-2.ensures), λ h. by.1 (omega (arith, floors, h, c.month_number.ensures, c.month_number-2.ensures)))
