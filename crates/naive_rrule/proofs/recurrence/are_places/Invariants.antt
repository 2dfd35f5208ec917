use Rattle.std.proofs.Common.{get_or, neg_ℤ, pos, ℕ, ℤ, ◌<◌, ◌≢◌, ◌≤ℤ◌}
use Rattle.naive_rrule.proofs.recurrence.are_places.Given as goal

abbrev pub invariant-loop-number : goal.invariant-loop-number
invariant-loop-number l = (k : ℕ) (d : ℤ) → k < l.number-index → (get_or l.list k d ≢ pos 0) × (neg_ℤ (pos l.most) ≤ℤ get_or l.list k d) ×
    (get_or l.list k d ≤ℤ pos l.most)
