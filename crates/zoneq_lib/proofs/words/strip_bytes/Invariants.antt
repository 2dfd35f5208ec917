use Rattle.zoneq_lib.{proofs.CitedWords.{Word, drop, ◌≡◌}, specs.Steps.LineReading.{scan}}
use Rattle.zoneq_lib.proofs.words.strip_bytes.Given as goal

abbrev pub invariant-loop-byte : goal.invariant-loop-byte
invariant-loop-byte l = scan (Word (drop l.byte-index l.word)) l.rest ≡ scan (Word l.word) l.text
