-- The changes of a zone's types as instants, and that clocks keep their type between them.
use Rattle.tz_info.proofs.Words.{HasNoChange, IfSome, IsAhead, IsNearest, IsNearestChange, Precedes, ◌<ℤ◌}
use Rattle.zoned_ref.{specs.ZoneChange.{IsUpTo, StandAlike, StandWithin, change_of_instants}, proofs.Words.{AreOffsetsOf, Bool, Change, IsAfter}}
use Rattle.zoned_ref.proofs.Words.{IsInRange, LocalType, MatchOption, Option, TypeAt, Zone, Zoned, arith, false, ints, option_map}
use Rattle.zoned_ref.proofs.Words.{pos, stays, subst, true, type_once, ℤ, ◌-ℤ◌, ◌≡◌, ◌≤ℤ◌}

-- ---- the nearest change that instants show
-- in that direction from the second s on, as far as both its seconds are in range
abbrev pub IsTold : Bool → ℤ → ℤ → Type 0
IsTold true s u = IsAfter s u
IsTold false s u = IsUpTo s u

-- u is ahead of s, and not beyond the second `end`
abbrev pub IsBetween : Bool → ℤ → ℤ → ℤ → Type 0
IsBetween true s end u = (s <ℤ u) × (u ≤ℤ end)
IsBetween false s end u = (end <ℤ u) × (u ≤ℤ s)

-- what shows a change if and only if both its seconds are in range
abbrev pub TellsInRange : {T : Type 0} → (T → Change) → (T → Type 0) → Change → Option T → Type 0
TellsInRange change also c found = MatchOption found (IsInRange (c.at -ℤ pos 1) → IsInRange c.at → ⊥)
    (λ d. (change d ≡ c) × also d × IsInRange (c.at -ℤ pos 1) × IsInRange c.at)

-- in one direction from a second in range on
module _ (w : Bool) (s : ℤ) (here : IsInRange s) where
  told : (u : ℤ) → IsTold w s u → IsAhead w s u × IsInRange (u -ℤ pos 1) × IsInRange u
  told u h = grind (arith, ints)

  is_told : (u : ℤ) → IsAhead w s u → IsInRange (u -ℤ pos 1) → IsInRange u → IsTold w s u
  is_told u a before at = grind (arith, ints)

  -- what comes before a change in range is in range
  sooner : (c d : ℤ) → IsAhead w s c → Precedes w c d → IsInRange (d -ℤ pos 1) → IsInRange d → IsInRange (c -ℤ pos 1) × IsInRange c
  sooner c d a p before at = grind (arith, ints)

  pub none_told : (in_force : ℤ → LocalType → Type 0) → HasNoChange in_force (IsAhead w s) → HasNoChange in_force (IsTold w s)
  none_told in_force none = λ d is k. grind arith

  pub nearest_told : {T : Type 0} (change : T → Change) (also : T → Type 0) (in_force : ℤ → LocalType → Type 0) (c : Change) (found : Option T)
      → IsNearestChange w in_force (IsAhead w s) c → TellsInRange change also c found → IsNearest w in_force (IsTold w s) (option_map change found)
  nearest_told change also in_force c found h tells = grind (arith, ints, told, sooner, is_told)

  between : (u v : ℤ) → IsInRange u → IsBetween w s u v → IsTold w s v
  between u v there h = grind (arith, ints)

  not_beyond : (u c d : ℤ) → IsAhead w u c → Precedes w c d → IsBetween w s u d → ⊥
  not_beyond u c d a p h = grind (arith, ints)

  none_between : {T : Type 0} (change : T → Change) (in_force : ℤ → LocalType → Type 0) (u : ℤ) (found : Option T) → IsInRange u
      → IsNearest w in_force (IsTold w s) (option_map change found) → IfSome found (λ c. IsAhead w u (change c).at) → HasNoChange in_force (IsBetween w s u)
  none_between change in_force u found there h short = grind (arith, ints, between, not_beyond)

-- ---- if no change comes, the type in force stays
-- from s on or before it, in the range; `off` shows the zone's offsets
module _ (z : Zone) (off : ℤ → ℤ) (has : AreOffsetsOf z off) where
  stands_on : (s u : ℤ) (t : LocalType) → IsInRange s → IsInRange u → s ≤ℤ u → HasNoChange (TypeAt z) (IsBetween true s u) → TypeAt z s t → TypeAt z u t
  stands_on s u t here there on none h =
      stays (TypeAt z) s u t (omega (arith, ints)) (omega (arith, ints)) on none
      (λ v low high. let at = has v (omega (arith, ints), omega (arith, ints)) in grind arith) h

  stands : (w : Bool) (s u : ℤ) (t : LocalType) → IsInRange s → IsInRange u → Precedes w s u
      → HasNoChange (TypeAt z) (IsBetween w s u) → TypeAt z s t → TypeAt z u t
  stands true s u t here there on none h = stands_on s u t here there on none h
  stands false s u t here there on none h =
      let at = has u (omega (arith, ints), omega (arith, ints)) in
      subst (TypeAt z u) (type_once z s at.type t (stands_on u s at.type there here on none at.in_force) h) at.in_force

  -- so the clocks do
  alike : (s u : ℤ) → IsInRange s → IsInRange u → ((t : LocalType) → TypeAt z s t → TypeAt z u t) → StandAlike z off s u
  alike s u here there stand =
      let at_s = has s (omega (arith, ints), omega (arith, ints)) in let at_u = has u (omega (arith, ints), omega (arith, ints)) in
      let same = type_once z u at_u.type at_s.type at_u.in_force (stand at_s.type at_s.in_force) in
      record { offset = grind arith; in_force = stand }

  pub stand_within : {T : Type 0} (w : Bool) (change : T → Change) (s : ℤ) → IsInRange s → (found : Option T)
      → IsNearest w (TypeAt z) (IsTold w s) (option_map change found)
      → StandWithin z off s (λ u. Precedes w s u × IfSome found (λ c. IsAhead w u (change c).at))
  stand_within w change s here found h = λ u there within.
      alike s u here there (λ t. stands w s u t here there within.0 (none_between w s here change (TypeAt z) u found there h within.1))

-- ---- two instants that show a change of the zone
pub change_is : {O : Type 0} (type_of : O → LocalType) (c : Change) (d e : Zoned O) → e.utc.s ≡ c.at
    → type_of d.offset ≡ c.before → type_of e.offset ≡ c.after → change_of_instants type_of d e ≡ c
change_is type_of c d e at before after = grind arith
