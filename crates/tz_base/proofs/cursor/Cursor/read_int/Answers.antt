use Rattle.std.proofs.{Common.{arith, ◌∙◌}, lemmas.Result.{err_from_is_err_and}}
use Rattle.tz_base.specs.Fronts.{int_at, is_digit}
use Rattle.tz_base.proofs.RunLaws.{all_of, runs_are, tested}
use Rattle.tz_base.proofs.cursor.Cursor.read_int.Goals as goal

pub number-requires : goal.number-requires
number-requires c = let w = c.read_while-digits.ensures in all_of is_digit _ (λ k h. tested _ is_digit (λ b m. m.0) (w.run k h))

pub returns-in_err-n-clause-value : goal.returns-in_err-n-clause-value
unfolding int_at
returns-in_err-n-clause-value c =
    let w = c.read_while-digits.ensures in let failed = err_from_is_err_and c.from_residual.result c.from_residual.ensures.1 in
    let runs = runs_are is_digit _ _ _ (w.whole ∙ c.self.view_is) (λ k h. tested _ is_digit (λ b m. m.0) (w.run k h))
    (λ h. tested _ is_digit (λ b m. m.0) (w.stop h)) in
    grind arith

pub returns-clause-value : goal.returns-clause-value
unfolding int_at
returns-clause-value c =
    let w = c.read_while-digits.ensures in
    let runs = runs_are is_digit _ _ _ (w.whole ∙ c.self.view_is) (λ k h. tested _ is_digit (λ b m. m.0) (w.run k h))
    (λ h. tested _ is_digit (λ b m. m.0) (w.stop h)) in
    grind arith
