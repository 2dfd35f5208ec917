use Rattle.zoneq_lib.proofs.{CitedWords.{◌≤◌}, ScanLaws.{ReadTo}}
use Rattle.zoneq_lib.proofs.numerals.number.Given as goal

abbrev pub invariant-loop-i : goal.invariant-loop-i
invariant-loop-i l = record { fits : l.value ≤ l.max; read : ReadTo l.text l.i l.value }
