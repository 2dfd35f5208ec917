use Rattle.zoneq_lib.proofs.{CitedWords.{◌∙◌}, Stopping.{told, told_in_part}}
use Rattle.zoneq_lib.proofs.program.tell.Goals as goal

pub returns-in_err-write_all : goal.returns-in_err-write_all
returns-in_err-write_all g c =
    let part = c.in_err-write_all.ensures.err in told_in_part _ _ _ _ _ _ (c.as_bytes.ensures.value ∙ c.text.ensures) _ part.1 part.2.1

pub returns : goal.returns
returns g c =
    let last = c.write_all-2.ensures in
    told _ _ _ _ _ _ (c.as_bytes.ensures.value ∙ c.text.ensures) _ c.write_all-2.result c.in_ok-write_all.ensures.ok.1 last.ok last.err
