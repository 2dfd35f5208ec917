-- Offsets print alike only if they are equal: a printed offset can be read back.
use Rattle.std.proofs.lemmas.Bool.Decides.{nat_tests}
use Rattle.std.specs.Prelude.{if◌then◌else◌, ◌==◌}
use Rattle.offset_core.specs.Digits.{in_digits}
use Rattle.offset_core.proofs.Words.{FixedOffset, IsWithinDay, List, ap, arith, get_or, ints, neg_ℤ, offset_text, pos, printed_offset, seconds_of}
use Rattle.offset_core.proofs.{Words.{short_clock_text, suc, sym, unsigned_abs, ℕ, ℤ, ◌*◌, ◌+◌, ◌-◌, ◌<◌, ◌∙◌, ◌∷◌, ◌≡◌, []}, FixedOffsets.{one_offset}}

-- the number that a text has at a place, in two digits, and 0 past its end
abbrev pub pair_at : List ℕ → ℕ → ℕ
pair_at text i = (get_or text i 48 - 48) * 10 + (get_or text (suc i) 48 - 48)

abbrev pub clock_of : List ℕ → ℕ
clock_of text = pair_at text 0 * 3600 + pair_at text 3 * 60 + pair_at text 6

clock_read : (n : ℕ) → n < 86_400 → clock_of (short_clock_text n) ≡ n
unfolding in_digits
clock_read n low = grind (arith, nat_tests)

abbrev offset_of : List ℕ → ℤ
offset_of [] = pos 0
offset_of (sign ∷ clock) = if sign == 45 then neg_ℤ (pos (clock_of clock)) else pos (clock_of clock)

offset_read : (z : ℤ) → IsWithinDay z → offset_of (offset_text z) ≡ z
offset_read z within = rw (clock_read (unsigned_abs z) (omega (arith, ints))) (grind (arith, ints, nat_tests))

pub printed_offset_once : (a b : FixedOffset) → printed_offset a ≡ printed_offset b → a ≡ b
printed_offset_once a b e =
    one_offset a b (sym (offset_read (seconds_of a) a.within_day) ∙ ap offset_of e ∙ offset_read (seconds_of b) b.within_day)
