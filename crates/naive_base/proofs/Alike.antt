-- Dates, times and local date-times print alike only if they are equal: what is printed can be read back.
use Rattle.std.proofs.{Math.Nat.{pow-suc}, lemmas.Fmt.{decimal_by_steps}}
use Rattle.std.specs.Prelude.{if◌then◌else◌, ◌==◌}
use Rattle.offset_core.proofs.ForCallers.{clock_of, pair_at}
use Rattle.naive_base.proofs.Words.{IsWide, IsWideDay, IsWideYear, List, Reading, ap, append_assoc, arith, date_is, date_text, day_at, day_number, day_of_month}
use Rattle.naive_base.proofs.Words.{decimal, drop, floor_mod_parts, floors, four_digits, get_or, in_digits, is_leap, month_bounds, month_of, nat_tests, neg_ℤ}
use Rattle.naive_base.proofs.Words.{pos, reading_at, reading_text, second_at, suc, time_text, year_of, year_text, zero, ℕ, ℤ, [], ◌%◌, ◌*◌, ◌++◌, ◌+◌, ◌-◌, ◌/◌}
use Rattle.naive_base.proofs.{Words.{◌<◌, ◌^◌, ◌∙◌, ◌∷◌, ◌≡◌}, Ranges.{wide_year}}

-- Numbers and years.

-- the number up to the next '-' ('-' is 45) and what follows, after the number so far: '+' (43) counts as 0
abbrev read : ℕ → List ℕ → ℕ × List ℕ
read n [] = (n, [])
read n (b ∷ bs) = if b == 45 then (n, bs) else read (n * 10 + (b - 48)) bs

abbrev Reads : ℕ → List ℕ → Type 0
Reads n digits = (rest : List ℕ) → read 0 (digits ++ rest) ≡ read n rest

one_more : (n : ℕ) (digits : List ℕ) → Reads (n / 10) digits → Reads n (digits ++ ((48 + n % 10) ∷ []))
one_more n digits h rest = rw (append_assoc digits ((48 + n % 10) ∷ []) rest, h ((48 + n % 10) ∷ rest)) (grind (arith, nat_tests))

in_digits-read : (k n : ℕ) → n < 10 ^ k → Reads n (in_digits k n)
unfolding in_digits
in_digits-read zero n low = λ rest. ap (λ m. read m rest) (omega arith)
in_digits-read (suc k) n low = one_more n (in_digits k (n / 10)) (in_digits-read k (n / 10) (omega (arith, pow-suc 10 k)))

one_digit : (n : ℕ) → n < 10 → Reads n ((48 + n) ∷ [])
one_digit n low rest = grind (arith, nat_tests)

decimal-read : (n : ℕ) → n < 2 ^ 64 → Reads n (decimal n)
decimal-read = decimal_by_steps Reads one_digit (λ n digits more h. one_more n digits h)

four_digits-read : (n : ℕ) → n < 2 ^ 64 → Reads n (four_digits n)
four_digits-read n fits rest = grind (arith, nat_tests, in_digits-read 4 n, decimal-read n fits rest)

-- a number with its sign
abbrev year_read : List ℕ → ℤ × List ℕ
year_read text =
    let plain = read 0 text in let minus = read 0 (drop 1 text) in
    if get_or text 0 0 == 45 then (neg_ℤ (pos minus.0), minus.1) else (pos plain.0, plain.1)

plain_year : (n : ℕ) (rest : List ℕ) → n < 10_000 → year_read (in_digits 4 n ++ (45 ∷ rest)) ≡ (pos n, rest)
unfolding in_digits
plain_year n rest low = grind (arith, nat_tests)

year_text-read : (y : ℤ) (rest : List ℕ) → IsWideYear y → year_read (year_text y ++ (45 ∷ rest)) ≡ (y, rest)
unfolding year_text
year_text-read y rest wide = grind (arith, four_digits-read, plain_year)

-- Days.

abbrev pub day_text : ℤ → List ℕ
day_text day = date_text (year_of day) (month_of day) (day_of_month day)

abbrev pub day_read : List ℕ → ℤ × List ℕ
day_read text = let year = year_read text in (day_number year.0 (pair_at year.1 0) (pair_at year.1 3), drop 5 year.1)

pair_read : (n : ℕ) → n < 100 → (48 + n / 10 % 10 - 48) * 10 + (48 + n % 10 - 48) ≡ n
pair_read n low = omega arith

pub day_text-read : (day : ℤ) (rest : List ℕ) → IsWideDay day → day_read (day_text day ++ rest) ≡ (day, rest)
unfolding in_digits
day_text-read day rest wide =
    let is = date_is day in let days = month_bounds (is_leap (year_of day)) (month_of day) in
    grind (arith, append_assoc, year_text-read, pair_read, wide_year day wide)

-- Times and local date-times.

abbrev triple_at : List ℕ → ℕ → ℕ
triple_at text i = (get_or text i 48 - 48) * 100 + pair_at text (suc i)

abbrev pub time_read : List ℕ → ℕ × ℕ
time_read text = (clock_of text, triple_at text 9 * 1_000_000 + triple_at text 12 * 1_000 + triple_at text 15)

pub time_text-read : (s f : ℕ) → s < 86_400 → f < 1_000_000_000 → time_read (time_text s f) ≡ (s, f)
unfolding in_digits
time_text-read s f low small = grind (arith, nat_tests)

abbrev reading_after : ℤ × List ℕ → Reading
reading_after day = let time = time_read (drop 1 day.1) in reading_at day.0 time.0 time.1

abbrev pub reading_read : List ℕ → Reading
reading_read text = reading_after (day_read text)

pub reading_text-read : (between : ℕ) (r : Reading) → IsWide r.s → r.f < 1_000_000_000 → reading_read (reading_text between r) ≡ r
reading_text-read between r wide plain =
    let second = floor_mod_parts r.s 86_400 (omega arith) in
    ap reading_after (day_text-read (day_at r) (between ∷ time_text (second_at r) r.f) (omega (arith, floors), omega (arith, floors)))
    ∙ ap (λ (time : ℕ × ℕ). reading_at (day_at r) time.0 time.1) (time_text-read (second_at r) r.f second.1 plain) ∙ grind (arith, floors)
