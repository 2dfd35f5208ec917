use Rattle.zoneq_lib.{proofs.CitedWords.{drop, ◌≡◌}, specs.Steps.HexTests.{are_hex}}
use Rattle.zoneq_lib.proofs.hex_digits.spell_bytes.Given as goal

abbrev pub invariant-loop-digit : goal.invariant-loop-digit
invariant-loop-digit l = are_hex (drop l.digit-index l.digits) ≡ are_hex l.digits
