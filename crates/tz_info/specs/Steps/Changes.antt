-- The way to the next and to the previous change.
use Rattle.std.specs.Prelude.{ℕ, ◌<◌, length, neg_ℤ, List, [], ◌∷◌, slice_index_or, ℤ, pos, ◌+ℤ◌, ◌-ℤ◌, ◌*ℤ◌, ◌≤ℤ◌, ◌<ℤ◌, ◌↔◌, ◌≡◌, ◌-◌, MatchOption, Option}
use Rattle.std.specs.Prelude.{Some, None, Bool, true, false, FitsSigned, if◌then◌else◌, int_lt, ◌+◌, ◌≤◌, ◌⊎◌}
use Rattle.std.specs.Int.{w64}
use Rattle.{
  naive_base.specs.Year.{year_start},
  tz_base.specs.{LocalTypes.{LocalType}, declared.change.Change.{Change}},
  tz_info.specs.{Changes.{HasNoChange, IsChange}, Leaps.{IsLeapTime, least_time}, Moments.{IsRuleTime, IsYearOf, start_in, end_in}, Rules.{Alternate}},
  tz_info.specs.{Steps.{Entries.{Entries, entry_time}, Segments.{segment_of}}, Zones.{Zone, IsFromLast, TypeAt}},
}

-- the first second of the year
abbrev pub new_year : ℤ → ℤ
new_year year = pos 86_400 *ℤ year_start year

-- the seconds after the year's first one, up to the next year's, at which types may change: the moments of the year and of
-- its neighbours, and that new year
unfoldable pub moments_near : Alternate → ℤ → List ℤ
moments_near a year =
    start_in a (year -ℤ pos 1) ∷ end_in a (year -ℤ pos 1) ∷ start_in a year ∷ end_in a year
    ∷ start_in a (year +ℤ pos 1) ∷ end_in a (year +ℤ pos 1) ∷ new_year (year +ℤ pos 1) ∷ []

-- the second u comes after `after`, at `last` at most
abbrev pub IsInStretch : ℤ → ℤ → ℤ → Type 0
IsInStretch after last u = (after <ℤ u) × (u ≤ℤ last)

-- the second u is one of the first n of those, and lies in the stretch
pub record IsOneOf (seconds : List ℤ) (n : ℕ) (after last u : ℤ) : Type 0 where
  pub place : ℕ
  pub below : place < n
  pub is : slice_index_or seconds place (pos 0) ≡ u
  pub inside : IsInStretch after last u

-- no change comes at the second, if it lies in the stretch
abbrev pub IsIdle : (ℤ → LocalType → Type 0) → ℤ → ℤ → ℤ → Type 0
IsIdle in_force after last second = (d : Change) → IsChange in_force d → d.at ≡ second → IsInStretch after last d.at → ⊥

-- the later one of two seconds
abbrev pub IsLaterOf : ℤ → ℤ → ℤ → Type 0
IsLaterOf one other later = (u : ℤ) → (later ≤ℤ u) ↔ ((one ≤ℤ u) × (other ≤ℤ u))

-- the earlier one of two seconds
abbrev pub IsEarlierOf : ℤ → ℤ → ℤ → Type 0
IsEarlierOf one other earlier = (u : ℤ) → (u ≤ℤ earlier) ↔ ((u ≤ℤ one) × (u ≤ℤ other))

-- of two changes the one that comes first in that direction
abbrev pub nearer_one : Bool → Option Change → Option Change → Option Change
nearer_one forward None other = other
nearer_one forward (Some one) None = Some one
nearer_one true (Some one) (Some other) = if int_lt other.at one.at then Some other else Some one
nearer_one false (Some one) (Some other) = if int_lt one.at other.at then Some other else Some one

-- in that direction u is ahead of the second s: later, or at s or earlier
abbrev pub IsAhead : Bool → ℤ → ℤ → Type 0
IsAhead true s u = s <ℤ u
IsAhead false s u = u ≤ℤ s

-- the stretch of all seconds after `begin` that are ahead of s
abbrev pub IsStretchAhead : Bool → ℤ → ℤ → ℤ → ℤ → Type 0
IsStretchAhead true begin s after last = IsLaterOf begin s after × (last ≡ pos 9_223_372_036_854_775_807)
IsStretchAhead false begin s after last = (after ≡ begin) × (last ≡ s)

-- how many of `len` entries are ahead in that direction if `count` have come, and the place of the nearest one if `left` are ahead
abbrev pub count_ahead : Bool → ℕ → ℕ → ℕ
count_ahead true len count = len - count
count_ahead false len count = count

abbrev pub place_ahead : Bool → ℕ → ℕ → ℕ
place_ahead true len left = len - left
place_ahead false len left = left - 1

-- the change at the second, if one comes there
abbrev pub IsChangeAt : (ℤ → LocalType → Type 0) → ℤ → Option Change → Type 0
IsChangeAt in_force second found = MatchOption found (HasNoChange in_force (λ u. u ≡ second)) (λ c. IsChange in_force c × (c.at ≡ second))

-- the change that comes with the entry at that place; if none does, it is the entry of the last transition, or comes at the least second of 64 bits
pub record IsChangeWith (z : Zone) (e : Entries) (place : ℕ) (found : Option Change) : Type 0 where
  pub change : IsChangeAt (TypeAt z) (entry_time e.items place) found
  pub none : found ≡ None → (e.all ≤ place + 1) ⊎ (entry_time e.items place ≡ least_time)

-- that of the nearest entry ahead, if `left` of them are
abbrev pub IsAheadChange : Zone → Entries → Bool → ℕ → Option Change → Type 0
IsAheadChange z e forward left found = (left ≡ 0 → found ≡ None) × (0 < left → IsChangeWith z e (place_ahead forward (length e.items) left) found)

-- the end of the stretch at which it begins in that direction
abbrev pub near_end : Bool → ℤ → ℤ → ℤ
near_end true after last = after
near_end false after last = last

-- of the seconds of the rule's years those from `near` on come from `second` on, and those up to `near` come up to `second`
pub record IsNearRuleTime (near second : ℤ) : Type 0 where
  pub from : (u : ℤ) → IsRuleTime u → near ≤ℤ u → second ≤ℤ u
  pub until : (u : ℤ) → IsRuleTime u → u ≤ℤ near → u ≤ℤ second

-- the year `step` years after the first one, or before it
abbrev pub year_at : Bool → ℤ → ℕ → ℤ
year_at true first step = first +ℤ pos step
year_at false first step = first -ℤ pos step

-- the second u lies in the stretch, and the second before it in the year
pub record IsOfYear (after last year u : ℤ) : Type 0 where
  pub inside : IsInStretch after last u
  pub of_year : IsYearOf (u -ℤ pos 1) year

-- u is a second that `within` takes, and at the second before u some transition has not come
pub record IsInTable (z : Zone) (within : ℤ → Type 0) (u : ℤ) : Type 0 where
  pub inside : within u
  pub table : segment_of z (u -ℤ pos 1) < length z.transitions

-- u is a second that `within` takes, and at the second before u all transitions have come
pub record IsChangeByRule (z : Zone) (within : ℤ → Type 0) (u : ℤ) : Type 0 where
  pub inside : within u
  pub by_rule : segment_of z (u -ℤ pos 1) ≡ length z.transitions

-- all transitions have come from `begin` on, and not before; without transitions, from the first second of 64 bits on
pub record IsBegin (z : Zone) (begin : ℤ) : Type 0 where
  pub comes : (u x : ℤ) → FitsSigned w64 u → IsLeapTime z.leaps u x → IsFromLast z x ↔ (begin ≤ℤ u)
  pub alone : length z.transitions ≡ 0 → begin ≡ neg_ℤ (pos 9_223_372_036_854_775_808)
