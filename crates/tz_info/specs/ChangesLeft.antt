-- What a `Changes` shows: the changes that it has left. That they are those of the stretch says the contract of the call that
-- makes it, by `AreChanges`; that a step takes the first or the last of them says the iterator.
use Rattle.std.specs.Prelude.{List, pos, ◌+ℤ◌}
use Rattle.tz_info.specs.{Steps.ChangeLists.{changes_of}, declared.zone.ask.all_changes.Changes.{Changes}}
use Rattle.tz_base.specs.declared.change.Change.{Change}

-- the changes that are left
unfoldable pub changes_left : Changes → List Change
changes_left s = changes_of s.zone.now (s.after +ℤ pos 1) (s.last +ℤ pos 1)
