use Rattle.tz_info.proofs.{Prefixes.one_false, Words.{are_calm, arith, is_calm_kind, sym, ◌≡◌}}
use Rattle.tz_info.proofs.rule.kinds.are_calm.Goals as goal

pub returns-then-not-is_calm_kind : goal.returns-then-not-is_calm_kind
unfolding are_calm
returns-then-not-is_calm_kind c =
    sym (one_false 14 _ (is_calm_kind c.args.starts.now c.args.ends.now) c.loop-kind-test.true
    (rw (← c.is_calm_kind.ensures) c.if-not-is_calm_kind.true))

pub returns : goal.returns
unfolding are_calm
returns c = let done : c.loop-kind.kind ≡ 14 = omega arith in cc
