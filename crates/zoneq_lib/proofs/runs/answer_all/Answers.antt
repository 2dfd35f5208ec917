use Rattle.zoneq_lib.proofs.{CitedWords.{append_assoc, arith}, Covering.{answered_join, from_start}, Stopping.{block_stopped, reader_ended}}
use Rattle.zoneq_lib.proofs.runs.answer_all.Goals as goal

pub loop-preserved : goal.loop-preserved
loop-preserved g c =
    let joined = answered_join c.loop.invariant.answered.4 c.in_ok-take_block-in-Ok.ensures.ok.1.1 in grind (arith, append_assoc)

pub returns-in_err-take_block-in-Ok-clause-answers : goal.returns-in_err-take_block-in-Ok-clause-answers
returns-in_err-take_block-in-Ok-clause-answers g c =
    let f = c.loop.invariant.answered in
    let stopped = block_stopped c.read.new.self.failed _ c.read.new.self.reads _ _ _ _ _ _ _ _ _ _ (grind arith) f.2 f.3 f.4 _ _ c.in-Ok.ensures.bytes.0
    c.in_err-take_block-in-Ok.ensures.err in
    grind arith

pub returns-in-Ok-eq0-clause-answers : goal.returns-in-Ok-eq0-clause-answers
returns-in-Ok-eq0-clause-answers g c =
    let f = c.loop.invariant.answered in let read = c.in-Ok-eq0 in
    reader_ended _ _ _ _ _ _ _ _ _ _ _ _ _ (grind arith) f.2 f.3 f.4 _ _ (grind arith) (grind arith) (rw read.field-0-test at read.ensures.bytes.0)
    c.finish.ensures.ok c.finish.ensures.err

-- the count of reads was used up
pub returns-clause-answers : goal.returns-clause-answers
returns-clause-answers g c = let s = from_start c.loop.invariant.answered.4 in grind arith

pub returns-clause-sent : goal.returns-clause-sent
returns-clause-sent g c = tt
