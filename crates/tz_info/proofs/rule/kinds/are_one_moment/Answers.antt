use Rattle.tz_info.proofs.{Prefixes.one_false, Words.{arith, sym, ◌≡◌}}
use Rattle.tz_info.specs.Steps.Kinds.{is_one_moment}
use Rattle.tz_info.proofs.rule.kinds.are_one_moment.Goals as goal

pub returns-then-not-is_one_moment : goal.returns-then-not-is_one_moment
returns-then-not-is_one_moment c =
    sym (one_false 14 _ (is_one_moment c.args.starts.now c.args.ends.now) c.loop-kind-test.true
    (rw (← c.is_one_moment.ensures) c.if-not-is_one_moment.true))

pub returns : goal.returns
returns c = let done : c.loop-kind.kind ≡ 14 = omega arith in cc
