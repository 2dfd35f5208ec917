-- The offset of a zone made a function of the second: a second has one at most, so that if it has some, that is one to
-- speak of.
use Rattle.std.specs.{Prelude.{◌≡◌, ℤ, pos, neg_ℤ}, Coded.{Coded-set, coded_ℤ}, Int.Signed.{clash_ℤ}}
use Rattle.std.proofs.{Common.{sym, ap, ◌∙◌, refl}, Math.Logic.{∥∥₁_prop, ∥∥₁_elim}, lemmas.Int.{by_lt_z}}
use Rattle.tz_info.specs.Zones.{Zone}
use Rattle.tz_info.proofs.ForCallers.{type_once}
use Rattle.zoned_time.specs.Zone.{IsZoneSecond}
use Rattle.zoned_ref.specs.Offsets.{HasOffset, HasOffsets}
use mathlib.Core.HLevel.{Σ_prop_path}

-- a second has at most one offset
pub one_offset : (z : Zone) (u j k : ℤ) → HasOffset z u j → HasOffset z u k → j ≡ k
one_offset z u j k a b =
    a.offset ∙ ap (λ t. t.offset) (type_once z u a.type b.type a.in_force b.in_force) ∙ sym b.offset

only_offset : (z : Zone) (u : ℤ) → IsProp ((k : ℤ) × ∥ HasOffset z u k ∥₁)
only_offset z u a b = Σ_prop_path (λ k. ∥∥₁_prop)
    (∥∥₁_elim a.1 (Coded-set coded_ℤ a.0 b.0) (λ x. ∥∥₁_elim b.1 (Coded-set coded_ℤ a.0 b.0) (λ y. one_offset z u a.0 b.0 x y)))

offset_in_range : (z : Zone) (u : ℤ) → ∥ HasOffsets z ∥₁ → IsZoneSecond u → (k : ℤ) × ∥ HasOffset z u k ∥₁
offset_in_range z u some inside = ∥∥₁_elim some (only_offset z u) (λ has. let k = has u inside in (k.0, ∣ k.1 ∣₁))

-- it, or 0 at a second outside the range that zones answer in
pub some_offset : (z : Zone) → ∥ HasOffsets z ∥₁ → (u : ℤ) → (k : ℤ) × (IsZoneSecond u → ∥ HasOffset z u k ∥₁) × (¬ (IsZoneSecond u) → k ≡ pos 0)
some_offset z some u =
    by_lt_z u (neg_ℤ (pos 8_334_601_401_600)) (λ before. (pos 0, (λ inside. clash_ℤ before inside.0), (λ _. refl))) (λ from.
    by_lt_z (pos 8_210_267_049_599) u (λ after. (pos 0, (λ inside. clash_ℤ after inside.1), (λ _. refl))) (λ to.
    let k = offset_in_range z u some (from, to) in (k.0, (λ _. k.1), (λ outside. absurd (outside (from, to))))))
