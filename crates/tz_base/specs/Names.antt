-- Names of local time types: the "time zone designations" of RFC 8536 section 3.2, and the `std` and `dst` of a TZ string
-- (POSIX.1 section 8.3). Here they are three to seven letters, digits, `+` or `-` of ASCII; RFC 8536 says that they should
-- have three to six.
use Rattle.std.specs.Prelude.{ℕ, ◌≡◌, ◌<◌, ◌≤◌, ◌-◌, ◌==◌, nat_le, Bool, true, ◌&&◌, ◌||◌, if◌then◌else◌, List, ◌++◌, Option, Some, None, length, slice_index}
use Rattle.std.proofs.Math.ListN.{replicate}
use Rattle.tz_base.specs.declared.error.Expected.{Expected, TheVariants.{NameOfThreeToSevenBytes, LettersDigitsPlusOrMinusInName}}

-- a letter, a digit, a plus or a minus of ASCII
abbrev pub is_name_byte : ℕ → Bool
is_name_byte b = (nat_le 65 b && nat_le b 90) || (nat_le 97 b && nat_le b 122) || (nat_le 48 b && nat_le b 57) || (b == 43) || (b == 45)

-- three to seven such bytes
abbrev pub IsName : List ℕ → Type 0
IsName text = (3 ≤ length text) × (length text ≤ 7) × ((i : ℕ) → i < length text → is_name_byte (slice_index text i) ≡ true)

-- a name, or none
abbrev pub IsNameOrNone : Option (List ℕ) → Type 0
IsNameOrNone (Some text) = IsName text
IsNameOrNone None = Unit {0}

-- eight bytes: a name, which has at most seven, and zeros after it
abbrev pub zero_ended : List ℕ → List ℕ
zero_ended name = name ++ replicate (8 - length name) 0

-- what is expected of bytes that are no name: another length, or else other bytes
abbrev pub expected_of_name : List ℕ → Expected
expected_of_name text = if nat_le 3 (length text) && nat_le (length text) 7 then LettersDigitsPlusOrMinusInName else NameOfThreeToSevenBytes
