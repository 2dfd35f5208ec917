use Rattle.tz_file.proofs.Words.{ap, not, runs_are, tested, ◌==◌}
use Rattle.tz_file.proofs.types.read_to_zero.Goals as goal

pub returns : goal.returns
returns c =
    let w = c.read_until.ensures in
    let (run, rest) = runs_are _ _ _ _ w.whole (λ k h. ap not (tested _ (λ b. b == 0) (λ b m. m) (w.run k h)))
    (λ h. ap not (tested _ (λ b. b == 0) (λ b m. m) (w.stop h))) in
    record { run = run; rest = rest }
