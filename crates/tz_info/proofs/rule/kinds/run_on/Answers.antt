use Rattle.tz_info.proofs.{Prefixes.one_false, Words.{arith, sym, ◌≡◌}}
use Rattle.tz_info.specs.Steps.Kinds.{runs_on}
use Rattle.tz_info.proofs.rule.kinds.run_on.Goals as goal

pub returns-then-not-runs_on : goal.returns-then-not-runs_on
returns-then-not-runs_on c =
    sym (one_false 14 _ (runs_on c.args.firsts.now c.args.lasts.now) c.loop-kind-test.true
    (rw (← c.runs_on.ensures) c.if-not-runs_on.true))

pub returns : goal.returns
returns c = let done : c.loop-kind.kind ≡ 14 = omega arith in cc
