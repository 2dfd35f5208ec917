use Rattle.tz_saving.proofs.Words.{fits, linear, type_once}
use Rattle.tz_saving.proofs.saving.daylight_saving.Goals as goal

pub returns : goal.returns
returns c = record {
  amount_is = grind (linear, fits);
  standard_is = λ t k. grind (linear, fits, type_once _ _ _ t c.in_ok-local.ensures, c.offset.ensures.value);
}
