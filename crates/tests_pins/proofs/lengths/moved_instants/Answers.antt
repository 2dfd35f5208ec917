use Rattle.tests_pins.proofs.{SetDays.{first_instant_of}, Words.{arith, by_lt_z, date_only, inl, inr, ints, pos, refl}, Computed.{calendar}}
use Rattle.tests_pins.proofs.lengths.moved_instants.Goals as goal
use Rattle.naive_base.specs.Since.{later_by}
use Rattle.tests_pins.specs.Instants.{noon}

pub returns-clause-stays : goal.returns-clause-stays
returns-clause-stays c = λ off e m r h. elim h [ inl none ↦ none.1 | inr some ↦ absurd (omega (arith, some.0)) ]

pub returns-clause-day : goal.returns-clause-day
unfolding calendar
returns-clause-day c = λ off set.
    let saturday = date_only (pos 18_937) (pos 2021) 11 6 (omega arith, omega arith, omega arith, omega arith) refl in
    let u = pos 1_636_304_400 in
    inr (
      omega arith,
      rw (saturday.0, saturday.1, saturday.2) (first_instant_of off _ u refl (omega (arith, ints), omega (arith, ints))
          (let is = set.from u (omega (arith, ints)) in omega (arith, ints))
          (λ v less. by_lt_z v (pos 1_636_264_800)
          (λ early. let is = set.before v early in omega (arith, ints))
          (λ late. let is = set.from v late in omega (arith, ints)))),
    )
