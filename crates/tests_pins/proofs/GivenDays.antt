-- Days that are given another day, if the answer is that day.
use Rattle.tests_pins.proofs.Words.{IsGiven, None, Option, Some, arith, given, itself, ℤ, ◌≡◌}

-- the day is given if it may be shown, and else none is
pub given_day : (p : Type 0) (v : ℤ) (answer : Option ℤ) → p → IsGiven itself given p v answer → answer ≡ Some v
given_day p v answer holds h = grind arith

pub given_none : (p : Type 0) (v : ℤ) (answer : Option ℤ) → ¬ p → IsGiven itself given p v answer → answer ≡ None
given_none p v answer not h = grind arith

-- these are the answers
pub is_given : (p : Type 0) (v : ℤ) → p → IsGiven itself given p v (Some v)
is_given p v holds = grind arith

pub is_none : (p : Type 0) (v : ℤ) → ¬ p → IsGiven itself given p v None
is_none p v not = grind arith

pub ruleset given_days = (given_day, given_none, is_given, is_none)
