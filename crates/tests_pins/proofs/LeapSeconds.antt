-- Lists of leap seconds, by tests that compute, and the leap times of UTC.
use Rattle.std.specs.Prelude.{int_le, ◌&&◌}
use Rattle.std.proofs.lemmas.Bool.{and_parts}
use Rattle.tz_info.proofs.{LeapOrder.{leap_times_answer}, ZoneLaws.{leap_time_decided}}
use Rattle.tz_info.specs.{Leaps.{IsLeapTime, IsNear, correction_at}, Zones.{TypeAtLeapTime}}
use Rattle.tests_pins.proofs.Words.{AreLeapSeconds, Bool, IsNextLeap, IsOneStep, LeapSecond, List, LocalType, TypeAt, Zone, [], add-one, arith, get_or, inl}
use Rattle.tests_pins.proofs.Words.{inr, ints, length, pos, refl, suc, true, utc_leaps, zero, ℕ, ℤ, ◌+ℤ◌, ◌<ℤ◌, ◌<◌, ◌∷◌, ◌≡◌}

-- whether an entry comes 28 days later, less a second, or more, and is one second more
abbrev pub follows : LeapSecond → LeapSecond → Bool
follows a b =
    int_le (a.unix_leap_time +ℤ pos 2_419_199) b.unix_leap_time
    && (int_le b.correction (a.correction +ℤ pos 1) && int_le (a.correction +ℤ pos 1) b.correction)

is_next : (a b : LeapSecond) → follows a b ≡ true → IsNextLeap a b
is_next a b h = record { later = grind (arith, ints); step = inl (grind (arith, ints)) }

abbrev pub are_chained : List LeapSecond → Bool
are_chained [] = true
are_chained (a ∷ []) = true
are_chained (a ∷ b ∷ es) = follows a b && are_chained (b ∷ es)

at_next : (es : List LeapSecond) → are_chained es ≡ true → (k : ℕ) (d : LeapSecond) → suc k < length es → IsNextLeap (get_or es k d) (get_or es (suc k) d)
at_next [] c k d h = absurd (omega arith)
at_next (a ∷ []) c k d h = absurd (omega arith)
at_next (a ∷ b ∷ es) c zero d h = is_next a b (and_parts (follows a b) (are_chained (b ∷ es)) c).0
at_next (a ∷ b ∷ es) c (suc k) d h = at_next (b ∷ es) (and_parts (follows a b) (are_chained (b ∷ es)) c).1 k d (omega arith)

pub utc_valid : AreLeapSeconds utc_leaps
utc_valid = record {
  first = λ d h. record { since_epoch = omega arith; step = inl refl };
  next = λ k d h. rw add-one (at_next utc_leaps refl k d (omega (arith, h)));
}

-- every second near 1970 has a leap time
pub leap_time : (u x : ℤ) → x ≡ u +ℤ correction_at utc_leaps u → IsNear u → IsLeapTime utc_leaps u x
leap_time u x is near = elim (leap_time_decided utc_leaps u) [
  | inl found ↦ record { sum = is; fits = found.1.fits }
  | inr refused ↦ absurd (leap_times_answer utc_leaps u utc_valid near.0 near.1 refused)
]

pub not_one_step : (a b : ℤ) → (a +ℤ pos 1) <ℤ b → IsOneStep a b → ⊥
not_one_step a b far s = omega (arith, ints, s)

-- without leap seconds the leap time is the Unix time
pub leapless : (z : Zone) (u : ℤ) (t : LocalType) → z.leaps ≡ [] → TypeAtLeapTime z u u t → TypeAt z u t
leapless z u t none in_force = grind (arith, ints)
