use Rattle.zoned_ffi.proofs.Words.{AreChanges, TypeAt, changes_left, length, map, written_change, written_into, ◌++◌, ◌≡◌, ◌≤◌}
use Rattle.zoned_ffi.proofs.changes.write_changes.Given as goal

-- what is found so far is counted and written, and with what is left it is the list
abbrev pub invariant-loop-change : goal.invariant-loop-change
invariant-loop-change l = (goal.iterator-loop-change).can_next l.change-iterator
    × (goal.iterator-loop-change).is_finite l.change-iterator
    × (l.count ≡ length l.yielded)
    × (l.count ≤ l.most)
    × (l.changes ≡ written_into (map written_change l.yielded) l.initial.changes)
    × AreChanges (TypeAt l.zone) l.from l.until (l.yielded ++ changes_left l.change-iterator)
