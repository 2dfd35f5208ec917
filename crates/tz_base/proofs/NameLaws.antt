-- A name is ASCII, and so it is text.
use Rattle.std.proofs.{Common.{ℕ, List, arith}, lemmas.{Str.{IsUtf8-from_ascii}, List.{get_or_default}}}
use Rattle.std.proofs.lemmas.{Str.Ascii.{IsAscii-from_all}, Bool.Decides.{nat_tests}}
use Rattle.std.specs.{Str.{IsUtf8}}
use Rattle.tz_base.specs.Names.{IsName}

pub name_is_utf8 : (text : List ℕ) → IsName text → IsUtf8 text
name_is_utf8 text h =
    IsUtf8-from_ascii text (IsAscii-from_all text (λ i d l. let e = get_or_default text i d 0 l in let k = h.2 i l in grind (arith, nat_tests)))
