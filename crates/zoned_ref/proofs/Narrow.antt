-- A zone is narrow if its least and its greatest offset are less than a day away from UTC.
use Rattle.tz_info.proofs.Words.{All-contains, Contains-append_left, Contains-append_right, IsGreatest, IsLeast, length-map, map, offsets, rule_offsets}
use Rattle.zoned_ref.proofs.Words.{All, All-append, All-contains_itself, All-map, IsNarrow, IsWithinDay, List, LocalType, Option, TransitionRule, Zone, arith}
use Rattle.zoned_ref.proofs.Words.{get_or, get_or-map, ints, rule_types, subst, ℤ, ◌++◌, ◌≡◌}

abbrev of_types : List LocalType → List ℤ
of_types types = map (λ t. t.offset) types

of_rule : (rule : Option TransitionRule) → rule_offsets rule ≡ of_types (rule_types rule)
of_rule rule = grind arith

-- the offsets of some types are within a day, and so are the types
within : (types : List LocalType) → All IsWithinDay (of_types types) → All (λ t. IsWithinDay t.offset) types
within types all = λ k d below. subst IsWithinDay (get_or-map (λ (t : LocalType). t.offset) types k d)
    (all k d.offset (omega (arith, length-map types (λ t. t.offset))))

pub narrow_by : (z : Zone) (least greatest : ℤ) → IsLeast (offsets z.types z.rule) least → IsGreatest (offsets z.types z.rule) greatest
    → IsWithinDay least → IsWithinDay greatest → IsNarrow z
narrow_by z least greatest is_least is_greatest low high =
    let xs = of_types z.types in let ys = rule_offsets z.rule in
    let all : All IsWithinDay (xs ++ ys) = λ k d below. let a = is_least.fewest k d below in let b = is_greatest.most k d below in
    (omega (arith, ints), omega (arith, ints)) in
    let left : All IsWithinDay xs =
    λ k d below. All-contains IsWithinDay (xs ++ ys) (get_or xs k d) all (Contains-append_left xs ys (get_or xs k d) (All-contains_itself xs k d below)) in
    let right : All IsWithinDay ys =
    λ k d below. All-contains IsWithinDay (xs ++ ys) (get_or ys k d) all (Contains-append_right xs ys (get_or ys k d) (All-contains_itself ys k d below)) in
    record { types = within z.types left; rule = within (rule_types z.rule) (subst (All IsWithinDay) (of_rule z.rule) right) }

-- each of a narrow zone's offsets is within a day
module _ (z : Zone) (narrow : IsNarrow z) where
  all_within : All IsWithinDay (offsets z.types z.rule)
  all_within =
      let f = λ (t : LocalType). t.offset in
      All-append IsWithinDay (of_types z.types) (rule_offsets z.rule) (All-map IsWithinDay f z.types narrow.types)
      (rw of_rule (All-map IsWithinDay f (rule_types z.rule) narrow.rule))

  pub least_within : (least : ℤ) → IsLeast (offsets z.types z.rule) least → IsWithinDay least
  least_within least is = All-contains IsWithinDay (offsets z.types z.rule) least all_within is.among

  pub greatest_within : (greatest : ℤ) → IsGreatest (offsets z.types z.rule) greatest → IsWithinDay greatest
  greatest_within greatest is = All-contains IsWithinDay (offsets z.types z.rule) greatest all_within is.among
