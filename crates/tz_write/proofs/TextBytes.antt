-- Texts that spell a value, made of their pieces, and what is not longer than what spells the same. Their bytes are letters, digits, and
-- those of `+ - , . / : < >`: so they are ASCII, and have no white space.
use Rattle.std.proofs.lemmas.{
  Bool.cases_eq,
  Fmt.{decimal-digits_value, decimal_nonempty, digits_decimal, digits_value-decimal},
  Str.Parse.{IsNumeralModel, numerals_by_fold},
}
use Rattle.std.proofs.Common.{decimal, ◌||◌}
use Rattle.tz_base.specs.{
  Fronts.{AllDigits, value_from},
  Grammar.{At, Byte, Check, Ended, Grammar, Here, IsNumber, Marked, Nothing, Number, Optional, Then},
  Refusals.Refusal,
  Tests.Test,
}
use Rattle.tz_base.proofs.TrimLaws.{HasNoSpace}
use Rattle.tz_info.proofs.Words.{nil_from_length}
use Rattle.tz_info.specs.TzGrammar.{dot}
use Rattle.tz_write.{
  proofs.Words.{[], AllOf, AreInPairs, Bool, HasNoZero, List, NoneFirst, Spells, Without, append-nil, append_assoc, arith, both_ways, colon, comma},
  proofs.Words.{cond, false, greater, is_digit, is_name_byte, length, length-append, less, nat_tests, not, refl, rules, slash, spelled_pair},
  proofs.Words.{true, ℕ, ◌%◌, ◌&&◌, ◌++◌, ◌+◌, ◌/◌, ◌<◌, ◌==◌, ◌^◌, ◌∷◌, ◌≡◌, ◌≢◌, ◌≤◌, ◌⊎◌},
  specs.WrittenTexts.TwoDigits,
}

-- ---- the front of bytes compared with a text
-- the front is the text, or longer
abbrev pub Best : List ℕ → List ℕ → Type 0
Best text front = (front ≡ text) ⊎ (length text < length front)

-- the bytes before the rest are the text, or more of them, if each colon has two digits after it
pub record Front (text bytes rest : List ℕ) : Type 0 where
  pub front : List ℕ
  pub whole : bytes ≡ front ++ rest
  pub best : AreInPairs bytes → Best text front

pub pairs_rest : (front rest : List ℕ) → AreInPairs (front ++ rest) → AreInPairs rest
pairs_rest [] rest h = h
pairs_rest (b ∷ bs) rest h = pairs_rest bs rest h.1

-- the bytes, and the rest after their front
module _ {bytes rest : List ℕ} where
  -- it is the text a, or longer
  module _ {a : List ℕ} where
    pub front_then : {b middle : List ℕ} → Front a bytes middle → Front b middle rest → Front (a ++ b) bytes rest
    front_then p q = record { front = p.front ++ q.front; whole = grind (arith, append_assoc); best = grind (arith, length-append, pairs_rest) }

    pub front_unless : (b : Bool) → Front a bytes rest → Front (cond b [] a) bytes rest
    front_unless b p = grind (arith, nil_from_length)

    -- a piece that may be left out, and is if the test passes
    pub front_optional : {X : Type 0} (tag : ℕ) (v : X) (g : Grammar X) {x : X} (b : Bool)
        → ((after : List ℕ) → bytes ≡ tag ∷ after → Spells g after x rest → Front a bytes rest)
        → (x ≡ v → b ≡ true) → Spells (Optional tag v g) bytes x rest → Front (cond b [] a) bytes rest
    front_optional tag v g b given out h = grind (arith, front_unless)

pub front_whole : {text bytes : List ℕ} → Front text bytes [] → AreInPairs bytes → Best text bytes
front_whole f pairs = grind (arith, append-nil)

-- a byte of the text, or one that it lacks
module _ {t : ℕ} {a bytes after rest : List ℕ} (e : bytes ≡ t ∷ after) (p : Front a after rest) where
  pub front_cons : Front (t ∷ a) bytes rest
  front_cons = record { front = t ∷ p.front; whole = grind arith; best = grind arith }

  pub front_longer : Front a bytes rest
  front_longer = record { front = t ∷ p.front; whole = grind arith; best = grind arith }

-- ---- bytes of texts
-- a letter, a digit or one of the signs
abbrev is_text_byte : ℕ → Bool
is_text_byte b = is_name_byte b || (b == comma) || (b == dot) || (b == slash) || (b == colon) || (b == less) || (b == greater)

abbrev pub AreTextBytes : List ℕ → Type 0
AreTextBytes = AllOf is_text_byte

-- what holds of each byte
module _ (p : ℕ → Bool) where
  all_append : (a b : List ℕ) → AllOf p a → AllOf p b → AllOf p (a ++ b)
  all_append [] b h k = k
  all_append (x ∷ xs) b h k = (h.0, all_append xs b h.1 k)

  pub all_others : (q : ℕ → Bool) → ((b : ℕ) → p b ≡ true → q b ≡ true) → (bs : List ℕ) → AllOf p bs → AllOf q bs
  all_others q each [] h = tt
  all_others q each (b ∷ bs) h = (each b h.0, all_others q each bs h.1)

  -- no colon, so none lacks its two digits
  pub pairs_over : ((b : ℕ) → p b ≡ true → b ≢ colon) → (bs rest : List ℕ) → AllOf p bs → AreInPairs rest → AreInPairs (bs ++ rest)
  pairs_over other [] rest h pairs = pairs
  pairs_over other (b ∷ bs) rest h pairs = grind (arith, pairs_over other bs rest)

  pub first_optional : (b : Bool) (t : ℕ) (text rest : List ℕ) → p t ≡ false → NoneFirst p rest → NoneFirst p (cond b [] (t ∷ text) ++ rest)
  first_optional b t text rest e h = grind (arith, nat_tests)

pub names_are : (bs : List ℕ) → AllOf is_name_byte bs → AreTextBytes bs
names_are = all_others is_name_byte is_text_byte (λ b h. rw h refl)

pub no_zeros : (text : List ℕ) → AreTextBytes text → HasNoZero text
no_zeros [] h = tt
no_zeros (b ∷ bs) h = (grind (arith, nat_tests), no_zeros bs h.1)

-- ---- texts of pieces
-- the text before that rest spells x; it has only those bytes; and each of its colons has two digits after it, if they do in the rest
pub record Writes {X : Type 0} (g : Grammar X) (text : List ℕ) (x : X) (rest : List ℕ) : Type 0 where
  pub spelled : Spells g (text ++ rest) x rest
  pub bytes : AreTextBytes text
  pub pairs : AreInPairs rest → AreInPairs (text ++ rest)

-- a sign other than a colon
abbrev is_sign : ℕ → Bool
is_sign t = is_text_byte t && not (t == colon)

-- x is spelled before that rest
module _ {X : Type 0} {x : X} {rest : List ℕ} where
  pub writes_nothing : {v : X} → x ≡ v → Writes (Nothing v) [] x rest
  writes_nothing same = grind arith

  pub writes_check : {place : List ℕ} {P : Type 0} {test : Test P} {refusal : Refusal} → P → Writes (At place (Check P test refusal x)) [] x rest
  writes_check h = grind arith

  -- the text a spells it
  module _ {a : List ℕ} where
    module _ {Y : Type 0} {g : Grammar Y} {f : Y → Grammar X} where
      pub writes_then : {b : List ℕ} {y : Y} → Writes g b y (a ++ rest) → Writes (f y) a x rest → Writes (Then g f) (b ++ a) x rest
      writes_then p q = grind (arith, nat_tests, append_assoc, all_append)

      -- what comes last has no bytes
      pub writes_last : {y : Y} → Writes g a y rest → Spells (f y) rest x rest → Writes (Then g f) a x rest
      writes_last p q = grind arith

      -- what comes first has none either
      pub writes_first : (y : Y) → Spells g (a ++ rest) y (a ++ rest) → Writes (f y) a x rest → Writes (Then g f) a x rest
      writes_first y p q = grind arith

    -- a fault has a place, and what is spelled has none
    pub writes_here : {f : List ℕ → Grammar X} → Writes (f (a ++ rest)) a x rest → Writes (Here f) a x rest
    writes_here p = assumption

    pub writes_byte : {t : ℕ} {f : Unit {0} → Grammar X} → is_sign t ≡ true → Writes (f tt) a x rest → Writes (Then (Byte t) f) (t ∷ a) x rest
    writes_byte sign p = grind (arith, nat_tests)

    -- either of two grammars may come
    module _ {g h : Grammar X} where
      pub writes_mark : {t : ℕ} → is_sign t ≡ true → Writes g a x rest → Writes (Marked t g h) (t ∷ a) x rest
      writes_mark sign p = grind (arith, nat_tests)

      pub writes_colon : TwoDigits (a ++ rest) → Writes g a x rest → Writes (Marked colon g h) (colon ∷ a) x rest
      writes_colon two p = grind arith

      pub writes_other : {t : ℕ} → Without t (a ++ rest) → Writes h a x rest → Writes (Marked t g h) a x rest
      writes_other none p = grind arith

      pub writes_more : a ++ rest ≢ [] → Writes h a x rest → Writes (Ended g h) a x rest
      writes_more some p = grind arith

    -- a piece that may be left out, and is if the test passes
    pub writes_optional : {tag : ℕ} {v : X} {g : Grammar X} (b : Bool) → (b ≡ true → x ≡ v) → Without tag rest
        → (b ≡ false → Writes (Optional tag v g) a x rest) → Writes (Optional tag v g) (cond b [] a) x rest
    writes_optional b same none given = grind (arith, writes_other, writes_nothing)

-- ---- no white space
pub no_space : (text : List ℕ) → AreTextBytes text → HasNoSpace text
no_space [] h = tt
no_space (b ∷ bs) h = (grind (arith, nat_tests), no_space bs h.1)

own : IsNumeralModel AllDigits (value_from 0)
own = numerals_by_fold AllDigits (search rules) value_from (search rules)

-- ---- decimal digits: without zeros in front they are the shortest that spell a number
-- the bytes begin with one between those two
abbrev pub Begins : ℕ → ℕ → List ℕ → Type 0
Begins low high [] = ⊥
Begins low high (first ∷ others) = (low ≤ first) × (first ≤ high)

digits_begin : (ds rest : List ℕ) → AllDigits ds → 0 < length ds → Begins 48 57 (ds ++ rest)
digits_begin [] rest each some = grind arith
digits_begin (d ∷ ds) rest each some = grind (arith, nat_tests)

pub number_begins : (n : ℕ) (rest : List ℕ) → n < 2 ^ 64 → Begins 48 57 (decimal n ++ rest)
number_begins n rest h = digits_begin (decimal n) rest (digits_decimal own n h) (decimal_nonempty n h)

-- ---- what they spell
pub two_digits : (n : ℕ) (rest : List ℕ) → n < 100 → NoneFirst is_digit rest → TwoDigits ((48 + n / 10) ∷ (48 + n % 10) ∷ rest)
two_digits n rest h none = grind (arith, nat_tests)

-- the number n is within its limit, and no digit follows it
module _ {max n : ℕ} {rest : List ℕ} (l : (n ≤ max) × (n < 2 ^ 64)) (none : NoneFirst is_digit rest) where
  digits_write : (ds : List ℕ) → AllDigits ds → 0 < length ds → value_from 0 ds ≡ n → Writes (Number max) ds n rest
  digits_write ds each some value = grind (arith, all_others is_digit is_text_byte (λ b h. grind (arith, nat_tests)), pairs_over)

  pub number_writes : Writes (Number max) (decimal n) n rest
  number_writes = let h = l.1 in digits_write (decimal n) (digits_decimal own n h) (decimal_nonempty n h) (digits_value-decimal own n h)

  pub pair_writes : n < 100 → Writes (Number max) ((48 + n / 10) ∷ (48 + n % 10) ∷ []) n rest
  pair_writes h = let d = two_digits n [] h tt in digits_write _ (d.0, (d.1, tt)) (omega arith) (omega arith)

-- ---- no fewer digits do
-- zeros in front may go, and then the digits are those of the number
decimal_best : (n : ℕ) (ds : List ℕ) → n < 2 ^ 64 → AllDigits ds → 0 < length ds → value_from 0 ds ≡ n → Best (decimal n) ds
decimal_best n [] h each some value = grind arith
decimal_best n (d ∷ ds) h each some value =
    let digits = decimal-digits_value own (d ∷ ds) each some in let shorter = decimal_best n ds h each.1 in
    let zero = cases_eq d 48 in grind (arith, nil_from_length)

pub number_front : {max n : ℕ} {bytes rest : List ℕ} → max < 2 ^ 64 → IsNumber max bytes n rest → Front (decimal n) bytes rest
number_front h p = grind (arith, decimal_best)

-- two digits and no third are those of the number
paired : (ds rest : List ℕ) (n : ℕ) → AllDigits ds → 0 < length ds → NoneFirst is_digit rest → value_from 0 ds ≡ n → TwoDigits (ds ++ rest)
    → ds ≡ (48 + n / 10) ∷ (48 + n % 10) ∷ []
paired (d ∷ e ∷ f ∷ ds) rest n each some none value pair = grind (arith, both_ways)
paired ds rest n each some none value pair = grind (arith, nat_tests, both_ways)

pub pair_front : {max n : ℕ} {bytes after rest : List ℕ} → bytes ≡ colon ∷ after → IsNumber max after n rest → Front (spelled_pair n) bytes rest
pair_front {n = n} e p = record { front = colon ∷ p.digits; whole = grind arith; best = grind (arith, paired) }
