use Rattle.zoned_plans.proofs.Words.{arith, refl, rules, zoned, ◌≡◌}
use Rattle.zoned_plans.proofs.RunMoves.{added, both_run, no_other, only_first, other_later, removed, turned}
use Rattle.zoned_plans.proofs.moves.next_move.Goals as goal

pub returns-in_default : goal.returns-in_default
returns-in_default g c = let own = c.in_ok-in_new.ensures in
    added _ _ _ (λ d. zoned d) (λ d. zoned d) _ _ c.in_ok-in_new.field-0
    (only_first (turned c.runs.invariant) own.0 own.1 (no_other c.in_default.ensures own.1))

pub returns-in_default-in_new : goal.returns-in_default-in_new
returns-in_default-in_new g c = let own = c.in-Some.ensures in
    removed _ _ _ (λ d. zoned d) (λ d. zoned d) _ _ c.in-Some.run' (only_first c.runs.invariant own.0 own.1 (no_other c.in_default-in_new.ensures own.1))

pub returns-then-is_before : goal.returns-then-is_before
returns-then-is_before g c = let own = c.in-Some.ensures in
    removed _ _ _ (λ d. zoned d) (λ d. zoned d) _ _ c.in-Some.run'
    (only_first c.runs.invariant own.0 own.1 (other_later c.in-Some-in_new.ensures.0.next (c.if-is_before.ensures.0 refl)))

pub returns-then-is_before-2 : goal.returns-then-is_before-2
returns-then-is_before-2 g c = let own = c.in-Some-in_new.ensures in
    added _ _ _ (λ d. zoned d) (λ d. zoned d) _ _ c.in-Some-in_new.other
    (only_first (turned c.runs.invariant) own.0 own.1 (other_later c.in-Some.ensures.0.next (c.if-is_before-2.ensures.0 refl)))

pub runs-preserved : goal.runs-preserved
runs-preserved g c =
    let same : c.to_utc-from.result.datetime.secs ≡ c.in-Some.run'.datetime.secs = search rules in
    rw same (both_run c.runs.invariant c.in-Some.ensures.0.next c.in-Some-in_new.ensures.0.next
    (λ less. let yes = c.if-is_before.ensures.1 less in grind arith)
    (λ less. let yes = c.if-is_before-2.ensures.1 less in grind arith))
