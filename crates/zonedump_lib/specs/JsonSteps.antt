-- What functions ensure that write JSON.
use Rattle.std.specs.Prelude.{◌≡◌, List, ◌++◌, OnOk, Result}
use Rattle.json.specs.{Token.{Token}, Written.{Written}}

-- those tokens are appended, and what was before stays
pub record Puts {E : Type 0} (r : Result (Unit {0}) E) (old new : Written) (ts : List Token) : Type 0 where
  pub tokens : OnOk r (new.tokens ≡ old.tokens ++ ts)
  pub before : OnOk r (new.before ≡ old.before)
