use Rattle.tz_info.proofs.Words.{runs_are, tested}
use Rattle.tz_info.proofs.rule.reader.name.read_letters.Goals as goal

pub returns : goal.returns
returns c =
    let w = c.read_while.ensures in
    let (run, rest) = runs_are _ _ _ _ w.whole (λ k h. tested _ _ (λ b m. m.0) (w.run k h)) (λ h. tested _ _ (λ b m. m.0) (w.stop h)) in
    record { run = run; rest = rest }
