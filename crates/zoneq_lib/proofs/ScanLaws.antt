-- What is read at the front of a line is what it spells: numbers, hex digits, and any grammar; and no line that goes on from a hopeless front
-- asks anything.
use Rattle.hex.{proofs.HexLemmas.{decode_of-ok}, specs.Hex.{decode_of, decode_pairs, is_hex_digit}}
use Rattle.std.{proofs.lemmas.Str.{IsUtf8-from_is_utf8, is_utf8-from_IsUtf8}, specs.Char.{IsNotAsciiDigit}}
use Rattle.tz_base.{proofs.{ForCallers.{run_again, run_splits}, RunLaws.{value_grows}}, specs.Fronts.{◌>>=◌}}
use Rattle.tz_base.specs.Grammar.{At, Ended, Grammar, Here, Inside, Marked, Run, Then, from_fault, if_read}
use Rattle.tz_base.specs.declared.error.{Error.TheVariants.{ParseInt}, Expected.TheVariants.{NumberWithinItsLimit}}
use Rattle.zoneq_lib.proofs.CitedWords.{All-head, All-tail, AllOf, AllPass, BadLine, Begins, Bool, Err, Error, Exact, IsBadLine, IsHopeless, List, Number, Ok}
use Rattle.zoneq_lib.proofs.CitedWords.{Result, Spells, after_run, append-nil, append_assoc, arith, codes, drop, drop_all, drop_more, exact_at, exact_cut}
use Rattle.zoneq_lib.proofs.CitedWords.{false, get_or, inl, inr, int_at, is_digit, lawful, length, length-append, length-take, nat_tests, nil_from_length}
use Rattle.zoneq_lib.proofs.CitedWords.{number_within, optional_tag_at, query_line, question, read, refl, run_of, tag_at, take, take-append-add}
use Rattle.zoneq_lib.proofs.CitedWords.{take-append-drop, true, value_from, without_return, ℕ, [], ◌%◌, ◌*◌, ◌++◌, ◌+◌, ◌-◌, ◌<◌, ◌∷◌, ◌≡◌, ◌≤◌, ◌⊎◌}
use Rattle.zoneq_lib.specs.Questions.{Word, at_query, calendar_day, choice, chosen, data_query, fold, gap, integer, local_time, next, resolve_query, show_query}
use Rattle.zoneq_lib.specs.{Hex.{bytes_of}, Questions.{text_query, unix_seconds, wall_query}, Steps.LineReading.{or_stop, scan}}
use Rattle.zoneq_lib.specs.declared.bad_line.BadLine.TheVariants.{Hopeless, Unfinished}

-- no part of it sees the bytes that follow, as `Here` does, or moves its fault
abbrev pub IsPlain : {X : Type 0} → Grammar X → Type 0
IsPlain (Then {X = X} g f) = IsPlain g × ((x : X) → IsPlain (f x))
IsPlain (Marked tag g h) = IsPlain g × IsPlain h
IsPlain (Ended g h) = IsPlain g × IsPlain h
IsPlain (Here f) = ⊥
IsPlain (At place g) = ⊥
IsPlain (Inside part from g) = ⊥
IsPlain g = Unit {0}

-- ---- at the end of the bytes a fault is there, and nothing is left
abbrev Stops : {A : Type 0} → List ℕ → Result (A × List ℕ) Error → Type 0
Stops left (Ok (x, rest)) = rest ≡ []
Stops left (Err e) = left ≡ []

pub stops : {X : Type 0} (g : Grammar X) → IsPlain g → Stops (from_fault g []) (read g [])
unfolding tag_at optional_tag_at int_at exact_at
stops (Then {X = Y} g f) p = let first = stops g p.0 in let later = λ (y : Y). stops (f y) (p.1 y) in grind arith
stops (Marked tag g h) p = stops h p.1
stops (Ended g h) p = stops g p.0
stops g p = grind arith

-- ---- what is read before the end is read also if more bytes follow, and what is hopeless stays so
abbrev Onward : {A : Type 0} → List ℕ → Result (A × List ℕ) BadLine → Result (A × List ℕ) Error → Type 0
Onward more (Ok (x, [])) r = Unit {0}
Onward more (Ok (x, b ∷ rest)) r = r ≡ Ok (x, b ∷ (rest ++ more))
Onward more (Err Unfinished) r = Unit {0}
Onward more (Err Hopeless) r = (e : Error) × (r ≡ Err e)

bind_onward : {A B : Type 0} (more left : List ℕ) (r s : Result (A × List ℕ) Error) (from : A → List ℕ → List ℕ)
    (f : A → List ℕ → Result (B × List ℕ) Error) → Onward more (or_stop left r) s → ((x : A) → Stops (from x []) (f x []))
    → ((x : A) (rest : List ℕ) → Onward more (or_stop (from x rest) (f x rest)) (f x (rest ++ more)))
    → Onward more (or_stop (if_read r from left) (r >>= λ p. f p.0 p.1)) (s >>= λ p. f p.0 p.1)
bind_onward more left (Ok (x, [])) s from f h end each = grind arith
bind_onward more left r s from f h end each = grind arith

-- more digits make no smaller number
run_more : (p : ℕ → Bool) (bytes more : List ℕ) → AllOf p bytes → run_of p (bytes ++ more) ≡ bytes ++ run_of p more
run_more p [] more h = refl
run_more p (b ∷ bytes) more h = grind (arith, run_more p bytes more h.1)

value_of_both : (n : ℕ) (ds more : List ℕ) → value_from n (ds ++ more) ≡ value_from (value_from n ds) more
value_of_both n [] more = refl
value_of_both n (d ∷ ds) more = value_of_both (10 * n + (d - 48)) ds more

still_above : (max d : ℕ) (ds more : List ℕ) (e : Error) → number_within max (d ∷ ds) ≡ Err e
    → number_within max (d ∷ (ds ++ more)) ≡ Err (ParseInt NumberWithinItsLimit)
still_above max d ds more e h = grind (arith, value_of_both, value_grows)

number_onward : (max b : ℕ) (bytes more : List ℕ) → Onward more (scan (Number max) (b ∷ bytes)) (read (Number max) (b ∷ (bytes ++ more)))
unfolding int_at
number_onward max b bytes more = grind (arith, run_splits is_digit (b ∷ bytes), run_again, run_more, still_above, append-nil, append_assoc)

exact_onward : (count : ℕ) (bytes more : List ℕ) → Onward more (scan (Exact count) bytes) (read (Exact count) (bytes ++ more))
unfolding exact_at
exact_onward count bytes more =
    grind (arith, length-append, take-append-drop count bytes, append_assoc, exact_cut count (bytes ++ more) (take count bytes), length-take)

onward : {X : Type 0} (g : Grammar X) (bytes more : List ℕ) → IsPlain g → Onward more (scan g bytes) (read g (bytes ++ more))
unfolding tag_at optional_tag_at
onward g [] more p = grind (arith, stops g p)
onward (Then g f) (b ∷ bytes) more p =
    bind_onward more _ (read g (b ∷ bytes)) (read g (b ∷ (bytes ++ more))) (λ x rest. from_fault (f x) rest) (λ x rest. read (f x) rest)
    (onward g (b ∷ bytes) more p.0) (λ x. stops (f x) (p.1 x)) (λ x rest. onward (f x) rest more (p.1 x))
onward (Marked tag g h) (b ∷ bytes) more p = grind (arith, onward g bytes more p.0, onward h (b ∷ bytes) more p.1)
onward (Ended g h) (b ∷ bytes) more p = onward h (b ∷ bytes) more p.1
onward (Exact count) (b ∷ bytes) more p = exact_onward count (b ∷ bytes) more
onward (Run test) (b ∷ bytes) more p = grind (arith, append_assoc, run_again, run_splits test (b ∷ bytes))
onward g (b ∷ bytes) more p = grind (arith, number_onward)

-- ---- what callers use
module _ {X : Type 0} (g : Grammar X) (bytes : List ℕ) where
  pub read_of : (v : X × List ℕ) → scan g bytes ≡ Ok v → read g bytes ≡ Ok v
  read_of v h = grind arith

  pub scanned : (x : X) (rest : List ℕ) → scan g bytes ≡ Ok (x, rest) → Spells g bytes x rest
  scanned x rest h = grind (arith, (lawful g bytes).takes (x, rest))

  pub not_scanned : (e : BadLine) → scan g bytes ≡ Err e → (x : X) (rest : List ℕ) → Spells g bytes x rest → ⊥
  not_scanned e h x rest spelled = grind (arith, (lawful g bytes).again (x, rest) spelled)

  pub never : (more : List ℕ) → IsPlain g → scan g bytes ≡ Err Hopeless → (x : X) (rest : List ℕ) → Spells g (bytes ++ more) x rest → ⊥
  never more p h x rest spelled = grind (arith, onward g bytes more p, (lawful g (bytes ++ more)).again (x, rest) spelled)

-- ---- numbers and hex digits
-- the first i bytes are digits, and spell n
pub record ReadTo (text : List ℕ) (i n : ℕ) : Type 0 where
  pub size : length (run_of is_digit text) ≡ i + length (run_of is_digit (drop i text))
  pub value : value_from 0 (run_of is_digit text) ≡ value_from n (run_of is_digit (drop i text))
  pub rest : after_run is_digit text ≡ after_run is_digit (drop i text)

pub number_ends : (text : List ℕ) (max i n : ℕ) → 0 < i → n ≤ max → (i < length text → is_digit (get_or text i 0) ≡ false) → ReadTo text i n
    → scan (Number max) text ≡ Ok (n, drop i text)
unfolding int_at
number_ends text max i n some limit stops r = grind (arith, drop_more, drop_all)

pub no_number : (text : List ℕ) (max i : ℕ) → i ≡ 0 → i < length text → IsNotAsciiDigit (get_or text i 0) → scan (Number max) text ≡ Err Hopeless
unfolding int_at
no_number [] max i first inside other = grind arith
no_number (c ∷ bytes) max i first inside other = grind arith

pub no_bytes : (text : List ℕ) (max : ℕ) → length text ≡ 0 → scan (Number max) text ≡ Err Unfinished
unfolding int_at
no_bytes text max none = grind (arith, nil_from_length text none)

pub number_stops : (text : List ℕ) (max i n : ℕ) → i < length text → is_digit (get_or text i 0) ≡ true → (10 * n + (get_or text i 0 - 48) ≤ max → ⊥)
    → ReadTo text i n → scan (Number max) text ≡ Err Hopeless
unfolding int_at
number_stops text max i n inside digit above r = grind (arith, drop_more, value_grows)

-- what is read where the digits end
pub ruleset number_read = (no_bytes, no_number, number_ends, number_stops, drop_all)

-- ---- hex digits
-- what the test of UTF-8 says
pub ruleset utf8_tested = (IsUtf8-from_is_utf8, is_utf8-from_IsUtf8)

-- ---- the crate `hex`
pairs_read : (i : ℕ) (digits : List ℕ) → length digits % 2 ≡ 0 → AllPass is_hex_digit digits → decode_pairs i digits ≡ Ok (bytes_of digits)
unfolding decode_pairs
pairs_read i (high ∷ low ∷ rest) even all =
    let P = λ (c : ℕ). is_hex_digit c ≡ true in
    let others = All-tail P high (low ∷ rest) all in let a = All-head P high (low ∷ rest) all in let b = All-head P low rest others in
    let more = pairs_read (i + 2) rest (omega (arith, even)) (All-tail P low rest others) in grind (arith, nat_tests)
pairs_read i digits even all = grind arith

-- what is decoded are the bytes that the digits spell
pub decoded : (digits bytes : List ℕ) → decode_of digits ≡ Ok bytes → bytes ≡ bytes_of digits
decoded digits bytes h = grind (arith, pairs_read 0 digits, decode_of-ok digits bytes h)

-- ---- no part of the grammar of lines sees the bytes that follow it
word : (letters : List ℕ) → IsPlain (Word letters)
unfolding Word
word [] = tt
word (c ∷ letters) = (tt, λ _. word letters)

begins : (letters : List ℕ) → IsPlain (Begins letters)
unfolding Begins
begins [] = tt
begins (c ∷ letters) = ((word letters, λ _. tt), tt)

one_of : {X : Type 0} (g h : Grammar X) → IsPlain g → IsPlain h → (first : Bool) → IsPlain (chosen g h first)
one_of g h p q true = p
one_of g h p q false = q

local : IsPlain local_time
unfolding calendar_day integer local_time next
local = search depth 60

plain_line : IsPlain query_line
unfolding at_query choice data_query fold gap integer next query_line question resolve_query show_query text_query unix_seconds wall_query
plain_line = search (begins, local, one_of) depth 60

-- ---- beginnings
cut_or_whole : (bytes : List ℕ) → (without_return bytes ≡ take (length bytes - 1) bytes) ⊎ (without_return bytes ≡ bytes)
cut_or_whole bytes = grind arith

-- the bytes are the front, and more
abbrev GoesOn : List ℕ → List ℕ → Type 0
GoesOn front bytes = (more : List ℕ) × (bytes ≡ front ++ more)

from_front : (front more : List ℕ) → GoesOn (without_return front) (front ++ more)
from_front front more = elim (cut_or_whole front) [
  | inl cut ↦ let n = length front - 1 in grind (arith, take-append-drop n front, append_assoc (take n front) (drop n front) more)
  | inr whole ↦ (more, cc)
]

from_front_ended : (front more : List ℕ) → GoesOn (without_return front) (without_return (front ++ more))
from_front_ended front [] = ([], simp append-nil)
from_front_ended front (c ∷ more) = elim (cut_or_whole (front ++ (c ∷ more))) [
  | inl cut ↦
      grind (arith, length-append front (c ∷ more), take-append-add front (c ∷ more) (length more), from_front front (take (length more) (c ∷ more)))
  | inr whole ↦ rw whole (from_front front (c ∷ more))
]

some_bytes : (front : List ℕ) → scan query_line (without_return front) ≡ Err Hopeless → 0 < length front
some_bytes [] h = let end = stops query_line plain_line in grind arith
some_bytes (c ∷ front) h = omega arith

still_bad : (front bytes : List ℕ) → scan query_line front ≡ Err Hopeless → GoesOn front bytes → IsBadLine bytes
still_bad front bytes h on = λ query asks. never query_line front on.0 plain_line h query [] (rw on.1 at asks)

pub hopeless : (front : List ℕ) → scan query_line (without_return front) ≡ Err Hopeless → IsHopeless front
hopeless front h = grind (arith, some_bytes, still_bad, from_front, from_front_ended)

-- what is kept in place of a hopeless line
pub mark_hopeless : IsHopeless (codes "?")
unfolding query_line question Begins optional_tag_at
mark_hopeless = hopeless (codes "?") refl

-- more of a hopeless line is as hopeless
pub more_hopeless : (front more : List ℕ) → IsHopeless front → IsHopeless (front ++ more)
more_hopeless front more h = grind (arith, length-append, append_assoc)
