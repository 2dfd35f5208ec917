use Rattle.zoned.proofs.FirstChange.{first_listed}
use Rattle.zoned.proofs.client_laws.first_of_changes.Goals as goal

pub returns : goal.returns
returns c = first_listed
