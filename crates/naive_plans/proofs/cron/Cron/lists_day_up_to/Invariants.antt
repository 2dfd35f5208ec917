use Rattle.std.proofs.Common.{IsTrue, false, get_or, ℕ, ◌<◌, ◌≤◌}
use Rattle.naive_plans.proofs.cron.Cron.lists_day_up_to.Given as goal

abbrev pub invariant-loop-day : goal.invariant-loop-day
invariant-loop-day l = (d : ℕ) → 1 ≤ d → d < l.day → IsTrue (get_or l.self.days d false) → ⊥
