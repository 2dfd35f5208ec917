-- A zone's transitions as one list of clock changes by Unix time: its entries, each a Unix second and the index of a type.
use Rattle.std.specs.{
  Prelude.{ℕ, ℤ, ◌≡◌, ◌≢◌, ◌⊎◌, ◌+◌, ◌-◌, ◌<◌, ◌≤◌, Some, ◌≤ℤ◌, ◌<ℤ◌, ◌↔◌, ◌++◌, [], ◌∷◌, List, length, map, Bool, true, false, FitsSigned, pos},
  Prelude.{slice_index_or, IsTrue, Option, None, zero, suc},
  Int.{w64},
  List.{slice_get},
}
use Rattle.tz_base.specs.{LocalTypes.{LocalType}, declared.change.Change.{Change}}
use Rattle.tz_info.specs.{
  Leaps.{IsLeapTime, least_time},
  Lists.{last_else},
  Steps.{Segments.{begin_of, index_of}, Starts.{leap_time_at}},
  Transitions.{AreRising, NameTypes, passed},
  Zones.{Zone, IsFromLast, index_at},
  declared.zone.made.change_table.{Between.{Between}, Come.{Come}},
  declared.zone.lists.table.Entry.{Entry},
}
use Rattle.tz_search.specs.Digits.{digits}
use Rattle.tz_base.specs.declared.{leap_second.LeapSecond.{LeapSecond}, transition.Transition.{Transition}}

-- a list of entries, how many of them have come once all transitions have, and the transitions as listed
pub record Entries : Type 0 where
  pub items : List Transition
  pub all : ℕ
  pub transitions : List Transition

-- the type index of the last entry, or 0 if the list is empty
abbrev pub last_index : List Transition → ℕ
last_index entries = last_else 0 (map (λ t. t.type_index) entries)

-- when the entry at that place comes
abbrev pub entry_time : List Transition → ℕ → ℤ
entry_time items place = (slice_index_or items place (record { unix_leap_time = pos 0; type_index = 0 })).unix_leap_time

-- the entry at that place
pub record IsEntryAt (entries : List Transition) (place : ℕ) (e : Entry) : Type 0 where
  pub before : e.before ≡ index_of entries place
  pub after : e.after ≡ index_of entries (place + 1)
  pub at : e.at ≡ begin_of entries (place + 1)

-- the entries are those of the zone: they rise, at each second with a leap time the last one that has come names the type of the last transition that has,
-- `all` of them
-- have come once all transitions have, and each comes at a second with a leap time and changes the type, except perhaps the last one with the last transition
pub record AreEntries (z : Zone) (e : Entries) : Type 0 where
  pub listed : e.transitions ≡ z.transitions
  pub rising : AreRising e.items
  pub indexes : NameTypes (length z.types) e.items
  pub few : length e.items ≤ length z.transitions
  pub more : length e.items ≤ e.all
  pub most : e.all ≤ length e.items + 1
  pub some : (0 < length z.transitions) ↔ (0 < e.all)
  pub named : (u x : ℤ) → FitsSigned w64 u → IsLeapTime z.leaps u x → slice_get z.types (index_at z x) ≡ slice_get z.types (last_index (passed e.items u))
  pub come : (u x : ℤ) → FitsSigned w64 u → IsLeapTime z.leaps u x → IsFromLast z x ↔ (length (passed e.items u) ≡ e.all)
  pub leap_time : (k : ℕ) → k < length e.items → (x : ℤ) × IsLeapTime z.leaps (entry_time e.items k) x
  pub differ : (k : ℕ) → k < length e.items → k + 1 < e.all → slice_get z.types (index_of e.items (k + 1)) ≢ slice_get z.types (index_of e.items k)

-- the first n entries change the type, except perhaps the last of all
abbrev pub AllChange : List LocalType → List Transition → ℕ → Type 0
AllChange types entries n =
    (k : ℕ) → k < n → k + 1 < length entries → slice_get types (index_of entries (k + 1)) ≢ slice_get types (index_of entries k)

-- one before the last doesn't
abbrev pub IsSomeIdle : List LocalType → List Transition → Type 0
IsSomeIdle types entries = (k : ℕ) × (k + 1 < length entries) × (slice_get types (index_of entries (k + 1)) ≡ slice_get types (index_of entries k))

-- the transitions as listed are the entries, and all of them come
abbrev pub as_listed : List Transition → Entries
as_listed transitions = record { items = transitions; all = length transitions; transitions = transitions }

-- the second s has a leap time, and is the first at which the leap time x has come
pub record IsStartIn (leaps : List LeapSecond) (x s : ℤ) : Type 0 where
  pub leap_time : (y : ℤ) × IsLeapTime leaps s y
  pub reached : (u y : ℤ) → IsLeapTime leaps u y → (x ≤ℤ y) ↔ (s ≤ℤ u)

-- the leap time x comes at no second of 64 bits
abbrev pub NeverComes : List LeapSecond → ℤ → Type 0
NeverComes leaps x = (u y : ℤ) → FitsSigned w64 u → IsLeapTime leaps u y → y <ℤ x

-- the last entry comes at that second
abbrev pub EndsAt : List Transition → ℤ → Type 0
EndsAt entries second = (t : Transition) × (slice_get entries (length entries - 1) ≡ Some t) × (t.unix_leap_time ≡ second)

-- the entries before a second: all of them, or all but the last, which comes at that second
pub data AreBefore (entries : List Transition) (second : ℤ) (kept : List Transition) : Type 0 where
  none_there : kept ≡ entries → ¬ (EndsAt entries second) → AreBefore entries second kept
  one_there : (t : Transition) → entries ≡ kept ++ (t ∷ []) → t.unix_leap_time ≡ second → AreBefore entries second kept

-- one entry more, if it is the last one or changes the type in force after the others
pub data IsAdded (types : List LocalType) (kept : List Transition) (entry : Transition) (is_last : Bool) (entries : List Transition) : Type 0 where
  added : entries ≡ kept ++ (entry ∷ []) → (is_last ≡ true) ⊎ (slice_get types entry.type_index ≢ slice_get types (last_index kept))
      → IsAdded types kept entry is_last entries
  idle : entries ≡ kept → is_last ≡ false → slice_get types entry.type_index ≡ slice_get types (last_index kept) → IsAdded types kept entry is_last entries

-- what has come at the second u: the index of the type in force after it, and whether all transitions have
pub record IsCome (e : Entries) (u : ℤ) (come : Come) : Type 0 where
  pub all : IsTrue come.are_all ↔ (length (passed e.items u) ≡ e.all)
  pub index : come.index ≡ last_index (passed e.items u)

-- the same by the zone's transitions, at a second with a leap time
pub record HaveComeAt (z : Zone) (u : ℤ) (come : Come) : Type 0 where
  pub of_second : IsLeapTime z.leaps u (leap_time_at z u)
  pub all : IsTrue come.are_all ↔ IsFromLast z (leap_time_at z u)
  pub named : slice_get z.types (index_at z (leap_time_at z u)) ≡ slice_get z.types come.index
  pub below : come.index < length z.types

-- as many probes as the number of entries has binary digits, but at least one
abbrev pub most_looks : ℕ → ℕ
most_looks zero = 1
most_looks (suc n) = digits (suc n)

-- the change that the entry at that place makes, or none if it comes at the least second
abbrev pub IsEntryChange : List LocalType → List Transition → ℕ → Option Change → Type 0
IsEntryChange types items place None = entry_time items place ≡ least_time
IsEntryChange types items place (Some c) =
    (c.at ≡ entry_time items place) × FitsSigned w64 c.at × (c.at ≢ least_time)
    × (slice_get types (index_of items place) ≡ Some c.before) × (slice_get types (index_of items (place + 1)) ≡ Some c.after)

-- the entries on both sides of the second u
pub record IsBetween (e : Entries) (u : ℤ) (b : Between) : Type 0 where
  pub place : ℕ
  pub some : place < length e.items
  pub come : place ≡ length (passed e.items u)
  pub from : b.from ≡ begin_of e.items place
  pub until : b.until ≡ entry_time e.items place
  pub index : b.index ≡ index_of e.items place
  pub span : IsTrue b.is_span → (0 < place) × (least_time <ℤ b.from) × (place + 1 < e.all)
