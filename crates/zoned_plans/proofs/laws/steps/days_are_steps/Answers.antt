use Rattle.zoned_plans.proofs.StepTimes.{day_is_step}
use Rattle.zoned_plans.proofs.laws.steps.days_are_steps.Goals as goal

pub returns : goal.returns
returns c = day_is_step
