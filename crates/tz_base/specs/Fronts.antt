-- What is at the front of bytes: a value with the bytes after it, or an error.
use Rattle.std.specs.Prelude.{ℕ, ◌+◌, ◌*◌, ◌-◌, nat_eq, nat_lt, nat_le, Bool, true, false, ◌&&◌, if◌then◌else◌, List, [], ◌∷◌, length, take, drop, Result, Ok}
use Rattle.std.specs.{Prelude.{Err, ◌≡◌}, List.{starts_with}}
use Rattle.tz_base.specs.declared.error.Error.{Error, TheVariants.{UnexpectedEnd, MissingTag, ParseInt}}
use Rattle.tz_base.specs.declared.error.Expected.TheVariants.{MoreBytes, Tag, OtherBytes, Digit, NumberWithinItsLimit}

infixl 10 ◌>>=◌
abbrev pub ◌>>=◌ : {A B : Type 0} → Result A Error → (A → Result B Error) → Result B Error
(Ok x) >>= f = f x
(Err e) >>= f = Err e

-- a call returned, seen by `view`, what the front of the bytes is
abbrev pub Gives : {X Y : Type 0} → (X → Y) → Result X Error → Result Y Error → Type 0
Gives view (Ok x) front = front ≡ Ok (view x)
Gives view (Err e) front = front ≡ Err e

-- the first `count` bytes, and the bytes after them
unfoldable pub exact_at : ℕ → List ℕ → Result (List ℕ × List ℕ) Error
exact_at count bytes = if nat_lt (length bytes) count then Err (UnexpectedEnd MoreBytes) else Ok (take count bytes, drop count bytes)

-- the bytes of a tag
unfoldable pub tag_at : List ℕ → List ℕ → Result (Unit {0} × List ℕ) Error
tag_at tag bytes =
    if nat_lt (length bytes) (length tag) then Err (UnexpectedEnd Tag) else
    (if starts_with nat_eq bytes tag then Ok (tt, drop (length tag) bytes) else Err (MissingTag OtherBytes))

-- whether the bytes begin with the tag, and the bytes after it if so
unfoldable pub optional_tag_at : List ℕ → List ℕ → Bool × List ℕ
optional_tag_at tag bytes = if starts_with nat_eq bytes tag then (true, drop (length tag) bytes) else (false, bytes)

-- the longest run of bytes that pass, and the bytes after it
abbrev pub run_of : (ℕ → Bool) → List ℕ → List ℕ
run_of p [] = []
run_of p (b ∷ bs) = if p b then b ∷ run_of p bs else []

abbrev pub after_run : (ℕ → Bool) → List ℕ → List ℕ
after_run p [] = []
after_run p (b ∷ bs) = if p b then after_run p bs else b ∷ bs

-- a digit of ASCII
abbrev pub is_digit : ℕ → Bool
is_digit b = nat_le 48 b && nat_le b 57

-- each byte passes the test
abbrev pub AllOf : (ℕ → Bool) → List ℕ → Type 0
AllOf p [] = Unit {0}
AllOf p (b ∷ bs) = (p b ≡ true) × AllOf p bs

-- the first byte, if there is one, does not pass it
abbrev pub NoneFirst : (ℕ → Bool) → List ℕ → Type 0
NoneFirst p [] = Unit {0}
NoneFirst p (b ∷ bs) = p b ≡ false

abbrev pub AllDigits : List ℕ → Type 0
AllDigits = AllOf is_digit

-- the value of the digits of n followed by these digits
abbrev pub value_from : ℕ → List ℕ → ℕ
value_from n [] = n
value_from n (d ∷ ds) = value_from (10 * n + (d - 48)) ds

-- the value of digits, if there are any and it is not above the limit
abbrev pub number_within : ℕ → List ℕ → Result ℕ Error
number_within max [] = Err (ParseInt Digit)
number_within max (d ∷ ds) = if nat_le (value_from 0 (d ∷ ds)) max then Ok (value_from 0 (d ∷ ds)) else Err (ParseInt NumberWithinItsLimit)

-- the value of the longest run of digits, and the bytes after it
unfoldable pub int_at : ℕ → List ℕ → Result (ℕ × List ℕ) Error
int_at max bytes = number_within max (run_of is_digit bytes) >>= λ n. Ok (n, after_run is_digit bytes)
