use Rattle.tz_info.proofs.ShownSecondLaws.{adjoint, one_reached, reached_rises}
use Rattle.tz_info.proofs.laws.shown_seconds.reached_law.Goals as goal

pub returns : goal.returns
returns c = record { once = one_reached; rises = reached_rises; adjoint = adjoint }
