use Rattle.std.proofs.Common.{◌+◌, ◌≡◌, [], length}
use Rattle.naive_rrule.specs.RuleTexts.{entries, pieces}
use Rattle.naive_rrule.proofs.rule_text.list.Given as goal

abbrev pub invariant-entries : goal.invariant-entries
invariant-entries g l = let read = entries (g.T.Entry.entry_of l.digits) l.expected in
    (read l.at (pieces 44 l.bytes) [] ≡ read l.from (pieces 44 l.rest) l.list.items) × (l.from + length l.rest ≡ l.at + length l.bytes)

abbrev pub decreases-entries : goal.decreases-entries
decreases-entries g l = length l.rest
