-- What is written of changes of the clocks.
use Rattle.std.specs.Prelude.{ℕ, ℤ, ◌≡◌, ◌⊎◌, ◌++◌, false, true, List, drop, length, map, take}
use Rattle.naive_base.specs.Range.{IsInRange}
use Rattle.tz_info.specs.{Changes.{AreChanges, IsFirstChange, IsLastChange}, Folds.{SkipsOrRepeats}, OffsetChanges.{IsNearestOffsetChange}, WallClocks.{Shows}}
use Rattle.tz_info.specs.Zones.{Zone, TypeAt}
use Rattle.offset_core.specs.WallAnswer.{IsShownOnce}
use Rattle.tz_base.specs.{LocalTypes.{LocalType}, declared.change.Change.{Change}}
use Rattle.zoned_ffi.specs.{WrittenTypes.{written_type}, declared.changes.WrittenChange.{WrittenChange}}

-- how a change is written
abbrev pub written_change : Change → WrittenChange
written_change c = record { at = c.at; before = written_type c.before; after = written_type c.after }

-- the first of the zone's changes at seconds that `within` accepts is written
abbrev pub IsFirstWritten : Zone → (ℤ → Type 0) → WrittenChange → Type 0
IsFirstWritten z within w = (c : Change) × IsFirstChange (TypeAt z) within c × (w ≡ written_change c)

-- the last one is
abbrev pub IsLastWritten : Zone → (ℤ → Type 0) → WrittenChange → Type 0
IsLastWritten z within w = (c : Change) × IsLastChange (TypeAt z) within c × (w ≡ written_change c)

-- the first of those at which the offset changes is written, or the last one
abbrev pub IsFirstOffsetWritten : Zone → (ℤ → Type 0) → WrittenChange → Type 0
IsFirstOffsetWritten z within w = (c : Change) × IsNearestOffsetChange true (TypeAt z) within c × (w ≡ written_change c)

abbrev pub IsLastOffsetWritten : Zone → (ℤ → Type 0) → WrittenChange → Type 0
IsLastOffsetWritten z within w = (c : Change) × IsNearestOffsetChange false (TypeAt z) within c × (w ≡ written_change c)

-- the change that skips the local time, or that sets clocks back so that they show it again, is written
abbrev pub IsLocalChangeWritten : Zone → ℤ → WrittenChange → Type 0
IsLocalChangeWritten z local w = (c : Change) × SkipsOrRepeats (TypeAt z) local c × (w ≡ written_change c)

-- why no change does, by its number: the local time is outside the calendar's range, or exactly one second shows it
abbrev pub IsNoLocalChange : Zone → ℤ → ℕ → Type 0
IsNoLocalChange z local n = ((n ≡ 23) × ¬ (IsInRange local)) ⊎ ((n ≡ 35) × ((t : LocalType) × IsShownOnce (Shows (TypeAt z) local) t))

-- a buffer after a list is written into it: as many of the list's elements as it has room for, then its old elements
abbrev pub written_into : {A : Type 0} → List A → List A → List A
written_into new room = take (length room) new ++ drop (length new) room

-- the first changes of the stretch, at most that many, are counted and written into the buffer, in their order
abbrev pub AreFirstWritten : Zone → ℤ → ℤ → ℕ → List WrittenChange → List WrittenChange → ℕ → Type 0
AreFirstWritten z from until most room written count =
    (all : List Change) × AreChanges (TypeAt z) from until all × (count ≡ length (take most all))
    × (written ≡ written_into (map written_change (take most all)) room)
