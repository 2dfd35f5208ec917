use Rattle.zoneq_lib.proofs.CitedWords.{arith, nil_from_length, [], ◌++◌, ◌≡◌}
use Rattle.zoneq_lib.proofs.dialogue.Dialogue.end_line.Goals as goal

pub returns-then-is_empty : goal.returns-then-is_empty
returns-then-is_empty g c =
    let none : c.args.self.now.begun.items ≡ [] = nil_from_length _ (grind arith) in grind arith

pub returns-in-Err-clause-err : goal.returns-in-Err-clause-err
returns-in-Err-clause-err g c =
    let begun : c.extend_from_slice.new.self.items ≡ c.args.self.now.begun.items ++ c.args.piece.now = grind arith in
    rw (c.without_return-line-2.ensures, c.as_slice.ensures.value, begun) at c.in-Err.ensures.err
