-- At a second there is one change, and so one next change, one previous change and one list of them; how that list begins and ends.
use Rattle.std.proofs.lemmas.Map.Made.{Contains-tail}
use Rattle.tz_info.proofs.{
  ChangeSearch.{InForce, IsOnce, apart},
  SecondTypes.{AreTypes, here_listed, types_told},
  Words.{AllPairs, AreChanges, Bool, Change, Changes, Contains, Contains-append_left, Contains-append_right, Contains-get_or, Contains-push},
  Words.{Contains-push_cases, HasNoChange, IsChange, IsFirstChange, IsFromUntil, IsInStretch, IsLastChange, IsNearest, IsRuleOrNone, IsTypeBeforeGap, IsValid},
  Words.{List, LocalType, None, Option, Some, TypeAt, Zone, [], add-suc, add-zero, all_pairs_push, ap, append-nil, append_assoc, arith, by_lt_z, change_here},
  Words.{changes_in, changes_left, changes_of, get_or, inl, inr, least_time, length, length-append, linear, lt_false, pos, refl, seconds_between, suc},
  Words.{type_or_none, zero, ℕ, ℤ, ◌++◌, ◌+ℤ◌, ◌+◌, ◌-ℤ◌, ◌<ℤ◌, ◌<◌, ◌↔◌, ◌∙◌, ◌∷◌, ◌≡◌, ◌≤ℤ◌},
  ZoneLaws.type_once,
}

pub one_change : (z : Zone) (c d : Change) → IsChange (TypeAt z) c → IsChange (TypeAt z) d → c.at ≡ d.at → c ≡ d
one_change z = apart (TypeAt z) (type_once z)

-- ---- the nearest one
pub one_nearest : (w : Bool) (z : Zone) (within : ℤ → Type 0) (a b : Option Change) → IsNearest w (TypeAt z) within a → IsNearest w (TypeAt z) within b → a ≡ b
one_nearest w z _ None None h k = refl
one_nearest w z within None (Some d) h k = grind linear
one_nearest w z within (Some c) None h k = grind linear
one_nearest w z within (Some c) (Some d) h k =
    let l = h.nearest d k.is k.inside in let m = k.nearest c h.is h.inside in ap Some (one_change z c d h.is k.is (grind linear))

-- ---- lists
abbrev pub Rise : List Change → Type 0
Rise changes = AllPairs (λ c d. c.at <ℤ d.at) changes

pub at_front : (c : Change) (cs : List Change) → Contains (c ∷ cs) c
at_front c cs = (0, omega arith, refl)

later : (c d : Change) (cs : List Change) → Rise (c ∷ cs) → Contains cs d → c.at <ℤ d.at
later c d cs rise h = rw h.2 at (rise 0 (suc h.0) d (omega arith) (omega arith))

pub not_before : (c d : Change) (cs : List Change) → Rise (c ∷ cs) → Contains (c ∷ cs) d → c.at ≤ℤ d.at
not_before c d cs rise h = let m = rise 0 h.0 d in grind linear

-- the changes after the first
rest : (z : Zone) (from until : ℤ) (c : Change) (cs : List Change) → AreChanges (TypeAt z) from until (c ∷ cs) → AreChanges (TypeAt z) (c.at +ℤ pos 1) until cs
rest z from until c cs h = record {
  rising = λ i j d l m. h.rising (suc i) (suc j) d (omega arith) (omega arith);
  each = λ x. let e = h.each x in (
    λ inside. let l = later c x cs h.rising inside in let k = e.0 (Contains-append_right (c ∷ []) cs x inside) in grind linear,
    λ k. let low = k.1.0 in let first = ((h.each c).0 (at_front c cs)).1.0 in
        Contains-tail c cs x (λ e. absurd (grind linear)) (e.1 (k.0, (omega linear, k.1.1))),
  );
}

pub one_list_of_changes : (z : Zone) (from until : ℤ) (a b : List Change) → AreChanges (TypeAt z) from until a → AreChanges (TypeAt z) from until b → a ≡ b
one_list_of_changes z from until [] [] h k = refl
one_list_of_changes z from until [] (d ∷ ds) h k = let e = ((h.each d).1 ((k.each d).0 (at_front d ds))).1 in absurd (omega arith)
one_list_of_changes z from until (c ∷ cs) [] h k = let e = ((k.each c).1 ((h.each c).0 (at_front c cs))).1 in absurd (omega arith)
one_list_of_changes z from until (c ∷ cs) (d ∷ ds) h k =
    let is = (h.each c).0 (at_front c cs) in
    let other = (k.each d).0 (at_front d ds) in
    let l = not_before d c ds k.rising ((k.each c).1 is) in
    let m = not_before c d cs h.rising ((h.each d).1 other) in
    let same = one_change z c d is.0 other.0 (omega linear) in
    let others = one_list_of_changes z (c.at +ℤ pos 1) until cs ds (rest z _ _ c cs h) (rw (← same) at (rest z _ _ d ds k)) in
    λ i. same i ∷ others i

-- ---- the type before a gap
pub one_type_before_gap : (z : Zone) (l : ℤ) (s t : LocalType) → IsTypeBeforeGap (TypeAt z) l s → IsTypeBeforeGap (TypeAt z) l t → s ≡ t
one_type_before_gap z l s t a b =
    let less = a.least _ b.more in
    let more = b.least _ a.more in
    let same : a.first ≡ b.first = omega linear in
    type_once z _ s t (rw same at a.before) b.before

-- ---- the list of a stretch's changes
-- ---- how lists are made
-- a change at the last second comes after those before it
then_here : (f : InForce) (from last : ℤ) (c : Change) (cs : List Change) → IsOnce f → IsChange f c → c.at ≡ last → from ≤ℤ last → AreChanges f from last cs
    → AreChanges f from (last +ℤ pos 1) (cs ++ c ∷ [])
then_here f from last c cs once is at low h = record {
  rising = all_pairs_push (λ a b. a.at <ℤ b.at) cs c h.rising (λ k d below. rw at ((h.each (get_or cs k d)).0 (Contains-get_or cs k d below)).1.1);
  each = λ d. let e = h.each d in (
    λ inside. elim (Contains-push_cases cs c d inside) [ inl earlier ↦ grind linear | inr same ↦ grind linear ],
    λ k. by_lt_z d.at last
        (λ less. Contains-append_left cs (c ∷ []) d (e.1 (grind linear)))
        (λ more. rw (← apart f once c d is k.0 (omega linear)) (Contains-push cs c)),
  );
}

-- ---- the list that is made second by second
changes_made : (f : InForce) (types : ℤ → Option LocalType) (from : ℤ) (n : ℕ) → IsOnce f → AreTypes f types
    → AreChanges f from (from +ℤ pos n) (changes_in types from n)
changes_made f types from zero once told = grind linear
changes_made f types from (suc n) once told =
    let last = from +ℤ pos n in
    let earlier = changes_made f _ from n once told in
    let end : from +ℤ pos (suc n) ≡ last +ℤ pos 1 = omega linear in
    rw end (elim (here_listed f types last once told) [
      | inl none ↦ let without = none.1 in
          rw none.0 (rw (append-nil (changes_in types from n)) (record { rising = earlier.rising; each = λ d. let e = earlier.each d in grind linear }))
      | inr one ↦ rw one.1 (then_here f _ _ _ _ once one.2 one.3 (omega linear) earlier)
    ])

until_is : (from until : ℤ) → from ≤ℤ until → from +ℤ pos (seconds_between from until) ≡ until
unfolding seconds_between
until_is _ _ late = grind arith

-- the seconds of two stretches, one after the other
parts : (types : ℤ → Option LocalType) (from : ℤ) (m n : ℕ) → changes_in types from (m + n) ≡ changes_in types from m ++ changes_in types (from +ℤ pos m) n
parts types from m zero = grind (linear, add-zero, append-nil)
parts types from m (suc n) =
    let e : (from +ℤ pos m) +ℤ pos n ≡ from +ℤ pos (m + n) = omega linear in
    rw (add-suc, e, parts types from m n)
    (append_assoc (changes_in types from m) (changes_in types (from +ℤ pos m) n) (change_here types (from +ℤ pos (m + n))))

-- a valid zone
module _ (z : Zone) (valid : IsValid z) (limits : IsRuleOrNone z.rule) (from until : ℤ) where
  -- the list has exactly the changes of the stretch
  changes_are : AreChanges (TypeAt z) from until (changes_of z from until)
  unfolding changes_of seconds_between
  changes_are = by_lt_z from until
      (λ less. let all = changes_made _ _ from (seconds_between from until) (type_once z) (types_told z valid limits) in
      rw (until_is from until (omega linear)) at all)
      (λ late. rw (lt_false _ _ late) (grind linear))

  none_left : HasNoChange (TypeAt z) (IsFromUntil from until) → changes_of z from until ≡ []
  none_left none = one_list_of_changes z from until _ [] changes_are (record { rising = grind linear; each = grind linear })

  -- a change, those before it and those after it
  around : (c : Change) → IsChange (TypeAt z) c → IsFromUntil from until c.at
      → changes_of z from until ≡ changes_of z from c.at ++ c ∷ changes_of z (c.at +ℤ pos 1) until
  unfolding changes_of
  around c is inside =
      let low = inside.0 in let m = seconds_between from c.at in let n = seconds_between (c.at +ℤ pos 1) until in
      let all = until_is from until (omega linear) in let first = until_is _ _ low in
      let last = until_is (c.at +ℤ pos 1) until (omega linear) in
      let split : seconds_between from until ≡ m + (1 + n) = omega linear in
      let at : c.at +ℤ pos 0 ≡ c.at = omega linear in
      let here : change_here (type_or_none z) c.at ≡ c ∷ [] = elim (here_listed _ _ c.at (type_once z) (types_told z valid limits)) [
        | inl none ↦ grind linear
        | inr one ↦ one.1 ∙ ap (λ d. d ∷ []) (one_change z one.0 c one.2 is one.3)
      ] in
      rw split (grind (linear, parts))

-- ---- a step of the iterator
pub steps_first : (s t : Changes) (c : Change) → IsValid s.zone.now → IsRuleOrNone s.zone.now.rule
    → IsFirstChange (TypeAt s.zone.now) (IsInStretch s.after s.last) c
    → t.zone ≡ s.zone → t.after ≡ c.at → t.last ≡ s.last → changes_left s ≡ c ∷ changes_left t
unfolding changes_left
steps_first s t c valid limits h zone after last =
    let none = none_left _ valid limits (s.after +ℤ pos 1) c.at (λ d is k. grind linear) in
    rw (zone, after, last) (rw none at (around _ valid limits (s.after +ℤ pos 1) (s.last +ℤ pos 1) c h.is (omega linear, omega linear)))

pub steps_last : (s t : Changes) (c : Change) → IsValid s.zone.now → IsRuleOrNone s.zone.now.rule
    → IsLastChange (TypeAt s.zone.now) (IsInStretch s.after s.last) c
    → t.zone ≡ s.zone → t.after ≡ s.after → t.last ≡ c.at -ℤ pos 1 → changes_left s ≡ changes_left t ++ c ∷ []
unfolding changes_left
steps_last s t c valid limits h zone after last =
    let none = none_left _ valid limits (c.at +ℤ pos 1) (s.last +ℤ pos 1) (λ d is k. grind linear) in
    let until : (c.at -ℤ pos 1) +ℤ pos 1 ≡ c.at = omega linear in
    grind (linear, around)

pub steps_none : (s : Changes) → IsValid s.zone.now → IsRuleOrNone s.zone.now.rule → HasNoChange (TypeAt s.zone.now) (IsInStretch s.after s.last)
    → changes_left s ≡ []
unfolding changes_left
steps_none s valid limits none = grind (linear, none_left)

-- ---- the changes from one second on and before another
-- of the seconds after the first one of 64 bits, before which no change comes, exactly those from `from` on come after `after`
abbrev IsBefore : ℤ → ℤ → Type 0
IsBefore after from = (u : ℤ) → least_time <ℤ u → (after <ℤ u) ↔ (from ≤ℤ u)

same_stretch : (after last from until u : ℤ) → least_time <ℤ u → IsBefore after from → IsBefore last until
    → IsFromUntil (after +ℤ pos 1) (last +ℤ pos 1) u ↔ IsFromUntil from until u
same_stretch _ _ _ _ u some before end = grind linear

pub all_left : (s : Changes) (from until : ℤ) → IsValid s.zone.now → IsRuleOrNone s.zone.now.rule → IsBefore s.after from → IsBefore s.last until
    → AreChanges (TypeAt s.zone.now) from until (changes_left s)
unfolding changes_left
all_left s from until valid limits before end =
    let all = changes_are _ valid limits (s.after +ℤ pos 1) (s.last +ℤ pos 1) in
    let same = λ (c : Change) (is : IsChange (TypeAt s.zone.now) c). same_stretch _ _ _ _ c.at (omega linear) before end in grind arith

-- without its last element a list is shorter
pub shorter : (cs ds : List Change) (c : Change) → cs ≡ ds ++ c ∷ [] → length ds < length cs
shorter cs ds c e = grind (arith, length-append)
