use Rattle.tz_base.proofs.TrimLaws.{trimmed_fits, trimmed_is}
use Rattle.tz_base.proofs.trims.trimmed.Goals as goal

pub returns : goal.returns
returns c = let is = trimmed_is _ _ c.trim_ascii.ensures.value in record { value = is; room = rw is (trimmed_fits c.args.bytes.now) }
