use Rattle.std.proofs.Common.{◌+◌, ◌≡◌, length}
use Rattle.naive_rrule.specs.RuleTexts.{none, pieces, with_parts}
use Rattle.naive_rrule.proofs.rule_text.read_parts.Given as goal

abbrev pub invariant-parts : goal.invariant-parts
invariant-parts l = (with_parts 0 (pieces 59 l.bytes) none ≡ with_parts l.at (pieces 59 l.rest) l.parts) × (l.at + length l.rest ≡ length l.bytes)

abbrev pub decreases-parts : goal.decreases-parts
decreases-parts l = length l.rest
