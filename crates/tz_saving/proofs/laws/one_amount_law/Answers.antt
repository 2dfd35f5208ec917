use Rattle.tz_saving.proofs.AmountLaws.{amount_once, saving_once}
use Rattle.tz_saving.proofs.laws.one_amount_law.Goals as goal

pub returns : goal.returns
returns c = record { once = amount_once; both = saving_once }
