-- The test of hex digits in a line.
use Rattle.std.specs.{Prelude.{ℕ, ◌%◌, nat_lt, Bool, true, ◌&&◌, List, [], ◌∷◌, length}, Bool.{Decides}, Char.{digit_value}}
use Rattle.std.{specs.Str.Parse.{AllDigits}, proofs.{Common.{refl}, lemmas.Bool.Decides.{Decides-and, Decides-ltb}}}
use Rattle.tz_base.specs.{Steps.Comparisons.{both, equal}, Tests.{Test}}
use Rattle.zoneq_lib.specs.Hex.{SpellBytes}

abbrev pub are_hex : List ℕ → Bool
are_hex [] = true
are_hex (c ∷ digits) = nat_lt (digit_value c) 16 && are_hex digits

pub hex_decided : (digits : List ℕ) → Decides (are_hex digits) (AllDigits 16 digits)
hex_decided [] = (λ _. tt, λ _. refl)
hex_decided (c ∷ digits) = Decides-and _ _ (Decides-ltb (digit_value c) 16) (hex_decided digits)

abbrev pub bytes_test : (digits : List ℕ) → Test (SpellBytes digits)
bytes_test digits = both (equal (length digits % 2) 0) (record { passes = are_hex digits; decides = hex_decided digits })
