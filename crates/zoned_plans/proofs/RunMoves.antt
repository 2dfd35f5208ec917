-- The walk over the runs of two zones.
use Rattle.zoned_plans.specs.Fires.{NoneFiresBetween}
use Rattle.zoned_plans.specs.Moves.{FiresInFirstOnly, IsMove, IsNextMove, NoneMovesBefore}
use Rattle.zoned_plans.specs.declared.moves.Move.TheVariants.{Added, Removed}
use Rattle.zoned_plans.proofs.Words.{IsAt, IsFire, IsNextFire, IsZonedNextFire, Law, Meaning, Zoned, arith, inl, inr, numbers, of_secs, rules, ℤ, ◌<ℤ◌, ◌≡◌}
use Rattle.zoned_plans.proofs.Words.{◌≤ℤ◌}

-- none moves after the second t up to a later one
pub record IsPassed (old new : ℤ → ℤ) (plan : ℤ → Type 0) (t from : ℤ) : Type 0 where
  pub later : t ≤ℤ from
  pub left : (v : ℤ) → IsMove old new plan v → t <ℤ v → from <ℤ v

pub turned : {old new : ℤ → ℤ} {plan : ℤ → Type 0} {t from : ℤ} → IsPassed old new plan t from → IsPassed new old plan t from
turned = grind arith

-- of the runs after t and at or before `until` that one of two zones has and the other one doesn't, d is the first: an instant of that zone
pub record IsFirstMove {O : Type 0} {m : Meaning O} (law : Law m) (other : ℤ → ℤ) (plan : ℤ → Type 0) (t until : ℤ) (d : Zoned O) : Type 0 where
  pub moved : FiresInFirstOnly law.off other plan d.utc.s
  pub after : t <ℤ d.utc.s
  pub not_after : d.utc.s ≤ℤ until
  pub none_skipped : NoneMovesBefore law.off other plan t d.utc.s
  pub at : IsAt law (of_secs d.utc.s 0) d

-- runs of a plan in an old and a new zone
module _ {D E O P : Type 0} {m : Meaning O} {n : Meaning P} (old : Law m) (new : Law n) (plan : ℤ → Type 0) (in_old : D → Zoned O) (in_new : E → Zoned P)
    (t until : ℤ) where
  pub removed : (d : D) → IsFirstMove old new.off plan t until (in_old d) → IsNextMove old new plan in_old in_new t until (Removed d)
  removed = grind arith

  pub added : (d : E) → IsFirstMove new old.off plan t until (in_new d) → IsNextMove old new plan in_old in_new t until (Added d)
  added = grind arith

-- a run of one zone, if the other one has none up to then
pub only_first : {O : Type 0} {m : Meaning O} {law : Law m} {other : ℤ → ℤ} {plan : ℤ → Type 0} {t from until : ℤ} {d : Zoned O}
    → IsPassed law.off other plan t from → IsZonedNextFire law plan from d → d.utc.s ≤ℤ until → ((v : ℤ) → IsFire other plan v → from <ℤ v → d.utc.s <ℤ v)
    → IsFirstMove law other plan t until d
only_first h next come none = search (rules, numbers)

-- the other zone has no run from one second up to s
module _ {other : ℤ → ℤ} {plan : ℤ → Type 0} {from s : ℤ} where
  pub no_other : {until : ℤ} → NoneFiresBetween other plan from until → s ≤ℤ until → (v : ℤ) → IsFire other plan v → from <ℤ v → s <ℤ v
  no_other = grind numbers

  pub other_later : {u : ℤ} → IsNextFire other plan from u → s <ℤ u → (v : ℤ) → IsFire other plan v → from <ℤ v → s <ℤ v
  other_later = grind numbers

-- both zones have the same next run
pub both_run : {old new : ℤ → ℤ} {plan : ℤ → Type 0} {t from u w : ℤ} → IsPassed old new plan t from → IsNextFire old plan from u → IsNextFire new plan from w
    → (u <ℤ w → ⊥) → (w <ℤ u → ⊥) → IsPassed old new plan t u
both_run {u = u} {w = w} h a b not_less not_more =
    let same : w ≡ u = grind numbers in
    let in_new = rw same at b.fires in let after = a.after in let later = h.later in
    record {
      later = omega (numbers, after, later);
      left = λ v move past. elim move [
        | inl one ↦ let least = a.none_skipped v one.0 (h.left v (inl one) past) in let other : u ≡ v → ⊥ = λ is. one.1 (rw is at in_new) in
            grind numbers
        | inr one ↦ let least = b.none_skipped v one.0 (h.left v (inr one) past) in let other : u ≡ v → ⊥ = λ is. one.1 (rw is at a.fires) in
            grind numbers
      ];
    }
