-- Errors are equal by `==` if and only if they are equal, and so are errors with their place.
use Rattle.std.proofs.{Common.{IsTrue, arith, nat_eq, refl, rules, ◌&&◌, ◌↔◌, ◌≡◌}, lemmas.Bool.Decides.{Decides-and}}
use Rattle.std.specs.{Option.{option_eq}}
use Rattle.tz_base.specs.contracts.error.{ErrorPartialEq.TheImpl.{eq-value as error_eq}, ExpectedPartialEq.TheImpl.{eq-value as expected_eq}}
use Rattle.tz_base.specs.declared.{error.{Error.{Error}, Expected.{Expected}}, parse_error.ParseError.{ParseError}}
use Rattle.tz_base.specs.declared.error.Error.TheVariants.{OutOfMemory}

expected_exact : (a b : Expected) → IsTrue (expected_eq.it a b) ↔ (a ≡ b)
expected_exact a b = search rules

error_from : (a b : Error) → IsTrue (error_eq.it a b) → a ≡ b
error_from OutOfMemory OutOfMemory h = refl
error_from _ _ h = search (rules, expected_exact)

pub error_exact : (a b : Error) → IsTrue (error_eq.it a b) ↔ (a ≡ b)
error_exact a b =
    let self : (x : Expected) → IsTrue (expected_eq.it x x) = λ x. (expected_exact x x).1 refl in (error_from a b, λ e. rw e (search (rules, self)))

pub parse_error_exact : (a b : ParseError) → IsTrue (error_eq.it a.error b.error && option_eq nat_eq a.position b.position) ↔ (a ≡ b)
parse_error_exact a b =
    grind (arith, Decides-and {Q = a.position ≡ b.position} _ (option_eq nat_eq a.position b.position) (error_exact a.error b.error) (search rules))
