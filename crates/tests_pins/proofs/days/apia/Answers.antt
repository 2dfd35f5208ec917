use Rattle.tests_pins.proofs.Words.{AreSetAt, IsFirstInstantFrom, IsFirstToReach, arith, inr, ints, midnight, neg_ℤ, of_secs, pos, refl, ℤ, ◌≤ℤ◌}
use Rattle.tests_pins.proofs.{SetDays.{length_between, never_both, set_days}, SetFires.{from_set}}
use Rattle.tests_pins.proofs.days.apia.Goals as goal

abbrev pub AreSet : (ℤ → ℤ) → Type 0
AreSet off = AreSetAt off (pos 1_325_239_200) (neg_ℤ (pos 36_000)) (pos 50_400)

first : (off : ℤ → ℤ) (l : ℤ) → AreSet off → pos 1_325_203_200 ≤ℤ l → l ≤ℤ pos 1_325_289_600 → IsFirstToReach off l (pos 1_325_239_200)
first off l set low high =
    from_set off (pos 1_325_239_200) (neg_ℤ (pos 36_000)) (pos 50_400) l (pos 1_325_239_200) set (omega (arith, ints), omega (arith, ints))
    (omega (arith, ints)) (omega (arith, ints)) (omega (arith, ints)) (inr refl)

pub returns-clause-length : goal.returns-clause-length
returns-clause-length c off set =
    length_between off (pos 15_338) (pos 1_325_239_200) (pos 1_325_239_200) (pos 0)
    (first off (pos 1_325_203_200) set (omega (arith, ints)) (omega (arith, ints)))
    (first off (pos 1_325_289_600) set (omega (arith, ints)) (omega (arith, ints))) refl

empty : (off : ℤ → ℤ) → AreSet off → IsFirstInstantFrom off (midnight (pos 15_338)) (of_secs (pos 1_325_239_200) 0)
empty off set = grind (arith, set_days)

next : (off : ℤ → ℤ) → AreSet off → IsFirstInstantFrom off (midnight (pos 15_339)) (of_secs (pos 1_325_239_200) 0)
next off set = grind (arith, set_days)

pub returns-clause-no_end : goal.returns-clause-no_end
returns-clause-no_end c off set r h inside =
    let day = h.in_day in
    never_both (of_secs (pos 1_325_239_200) 0) r day.start day.next day.not_before day.before
    ((empty off set).first day.start day.starts.shown) (day.ends.first (of_secs (pos 1_325_239_200) 0) (next off set).shown)
