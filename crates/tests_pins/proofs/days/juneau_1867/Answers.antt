use Rattle.tests_pins.proofs.Words.{AreSetAt, IsFirstToReach, arith, inl, ints, neg_ℤ, pos, refl, ℤ, ◌+ℤ◌, ◌<ℤ◌, ◌≡◌, ◌≤ℤ◌}
use Rattle.tests_pins.proofs.{SetDays.{length_between}, SetFires.{before_set, from_set}}
use Rattle.tests_pins.proofs.days.juneau_1867.Goals as goal

abbrev pub AreSet : (ℤ → ℤ) → Type 0
AreSet off = AreSetAt off (neg_ℤ (pos 3_225_223_727)) (pos 54_139) (neg_ℤ (pos 32_261))

first : (off : ℤ → ℤ) (l u : ℤ) → AreSet off → (u +ℤ pos 54_139) ≡ l → neg_ℤ (pos 4_000_000_000) ≤ℤ u → u <ℤ neg_ℤ (pos 3_225_223_727)
    → IsFirstToReach off l u
first off l u set shown low early =
    before_set off (neg_ℤ (pos 3_225_223_727)) (pos 54_139) (neg_ℤ (pos 32_261)) l u set (omega (arith, ints), omega (arith, ints)) early shown

pub returns-clause-length : goal.returns-clause-length
returns-clause-length c off set =
    length_between off (neg_ℤ (pos 37_330)) (neg_ℤ (pos 3_225_366_139)) (neg_ℤ (pos 3_225_279_739)) (pos 86_400_000_000_000)
    (first off (neg_ℤ (pos 3_225_312_000)) (neg_ℤ (pos 3_225_366_139)) set refl (omega (arith, ints)) (omega (arith, ints)))
    (first off (neg_ℤ (pos 3_225_225_600)) (neg_ℤ (pos 3_225_279_739)) set refl (omega (arith, ints)) (omega (arith, ints))) refl

pub returns-clause-next_length : goal.returns-clause-next_length
returns-clause-next_length c off set =
    length_between off (neg_ℤ (pos 37_329)) (neg_ℤ (pos 3_225_279_739)) (neg_ℤ (pos 3_225_106_939)) (pos 172_800_000_000_000)
    (first off (neg_ℤ (pos 3_225_225_600)) (neg_ℤ (pos 3_225_279_739)) set refl (omega (arith, ints)) (omega (arith, ints)))
    (from_set off (neg_ℤ (pos 3_225_223_727)) (pos 54_139) (neg_ℤ (pos 32_261)) (neg_ℤ (pos 3_225_139_200)) (neg_ℤ (pos 3_225_106_939)) set
    (omega (arith, ints), omega (arith, ints)) (omega (arith, ints)) (omega (arith, ints)) (omega (arith, ints)) (inl (omega (arith, ints)))) refl
