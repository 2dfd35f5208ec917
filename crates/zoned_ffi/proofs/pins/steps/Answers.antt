use Rattle.naive_plans.specs.declared.clock_step.ClockStep.TheVariants.{Part}
use Rattle.zoned_ffi.proofs.Words.{arith, refl}
use Rattle.zoned_ffi.proofs.pins.steps.Goals as goal

pub returns-clause-quarter_hour : goal.returns-clause-quarter_hour
returns-clause-quarter_hour c = (Part (record { seconds = 900; part = (omega arith, refl) }), refl)
