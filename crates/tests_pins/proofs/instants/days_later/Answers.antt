use Rattle.offset_core.specs.declared.local_result.LocalResult.TheVariants.{Single}
use Rattle.naive_base.specs.Reading.{reading_at, second_at}
use Rattle.zoned_time.specs.{DateTime.{day_shown_by, wall_of, zoned, IsOnlyDaysLater}, Relocal.{IsOnly}, Zone.{home_law}}
use Rattle.tests_pins.proofs.Words.{Reading, Some, Zoned, ap, arith, day_at, inl, ints, pos, refl, sym, ℤ, ◌≡◌}
use Rattle.tests_pins.specs.Instants.{of_utc, PlainInstant}
use Rattle.tests_pins.proofs.instants.days_later.Goals as goal

-- clocks of UTC show noon once
noon_once : (o : ℤ) (l : Reading) (d : Zoned ℤ) → l ≡ record { s = pos 1_645_358_400; f = 0 }
    → d.utc ≡ record { s = pos 1_646_136_000; f = 0 } → d.offset ≡ pos 0
    → IsOnly (home_law of_utc o) (reading_at (pos 19_052) (second_at l) l.f) (Some d)
noon_once o l d shown utc same = rw shown (record {
  instants = Single d;
  relocal = record {
    offsets = Single d.offset;
    wall = record {
      wall = record {
        second = pos 1_646_136_000;
        shown = record { in_zone = (omega arith, omega arith); offset = same; shown = rw same refl };
        only = λ u k s. let is = s.offset in let shows = s.shown in omega (arith, ints, is, shows);
      };
      in_force = same;
      same_home = record { offsets = λ u inside. refl; in_force = λ u inside o. ((λ h. h), (λ h. h)) };
    };
    instants = record {
      answers = Single (Some d);
      asked = (Some d, _, (rw same (omega arith, omega arith), rw (same, sym utc) refl), refl);
      kept = refl;
    };
  };
  only = refl;
})

noon_after : (d new : PlainInstant) → wall_of d ≡ record { s = pos 1_645_358_400; f = 0 }
    → (zoned new).utc ≡ record { s = pos 1_646_136_000; f = 0 } → (zoned new).offset ≡ pos 0
    → IsOnlyDaysLater of_utc d (pos 9) (Some new)
noon_after d new shown utc same =
    let day : day_shown_by d ≡ pos 19_043 = ap (λ r. day_at r) shown in
    let after : day_shown_by new ≡ pos 19_052 = grind (arith, ints, ap (λ r. r.s) utc, same) in record {
      value = Some (pos 19_052);
      there = rw day (inl (omega arith, omega arith), refl);
      given = noon_once (zoned d).offset (wall_of d) (zoned new) shown utc same;
      shown = ap (λ n. Some n) (sym after);
    }

pub returns-clause-is_later : goal.returns-clause-is_later
returns-clause-is_later c = noon_after
