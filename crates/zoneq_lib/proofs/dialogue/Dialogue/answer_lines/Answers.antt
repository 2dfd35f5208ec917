use Rattle.zoneq_lib.proofs.{CitedWords.{HasNoNewline, append-nil, append_assoc, arith}, Covering.{answered_none}, Stopping.{line_stops, line_taken, rest_kept}}
use Rattle.zoneq_lib.proofs.dialogue.Dialogue.answer_lines.Goals as goal

pub loop-piece-init : goal.loop-piece-init
loop-piece-init g c = grind (arith, answered_none c.args.self.now.zone c.args.self.now.begun.items c.requires.begun, append-nil)

pub loop-piece-preserved : goal.loop-piece-preserved
loop-piece-preserved g c =
    let f = c.loop-piece.invariant.answered in let replied = c.in-Ok.ensures.ok in
    let taken = line_taken _ f.2 f.3 _ _ _ _ _ c.in-Some.ensures.0 c.in-Some.ensures.1 replied.1.1.1 replied.0 in
    grind (arith, append_assoc)

pub returns-in-Ok-begin_line-clause-ok : goal.returns-in-Ok-begin_line-clause-ok
returns-in-Ok-begin_line-clause-ok g c =
    let f = c.loop-piece.invariant.answered in let begun = c.in-Ok-begin_line.ensures in
    let lone : HasNoNewline c.loop-piece.rest.now = grind arith in
    (grind arith, (f.1, rest_kept _ f.2 f.3 _ _ lone begun.zone begun.ok (begun.lone f.3.lone lone), f.4))

pub returns-in-Err-clause-err : goal.returns-in-Err-clause-err
returns-in-Err-clause-err g c =
    let f = c.loop-piece.invariant.answered in
    line_stops _ f.2 f.3 _ _ _ _ _ _ c.in-Err.e c.in-Some.ensures.0 c.in-Some.ensures.1 f.4 c.in-Err.ensures.err
