use Rattle.tz_info.proofs.{
  Candidates.{asked_found, asked_other},
  Words.{AlternateAt, SFits, linear, rules, to_z-of_z, w64, ◌-ℤ◌, ◌≡◌},
  rule.alternate.AlternateTime.ask.Goals.{After-offset},
}
use Rattle.tz_info.proofs.rule.alternate.AlternateTime.ask.Goals as goal

-- the second fits, and the type is in force then
known : (c : After-offset) → SFits w64 (c.args.local -ℤ c.args.offset) × (c.second_showing-second.result ≡ c.args.local -ℤ c.args.offset)
    × AlternateAt c.args.self.now (c.args.local -ℤ c.args.offset) c.type_in-found.result.now
known c =
    let fl = c.ranges.local in let fo = c.ranges.offset in
    let fs : SFits w64 c.second_showing-second.result = search rules in
    let second = simp to_z-of_z at c.second_showing-second.ensures.value in
    (rw (← second) fs, second, rw second at (simp to_z-of_z at c.type_in-found.ensures))

pub returns-then-offset-clause-asked : goal.returns-then-offset-clause-asked
returns-then-offset-clause-asked c =
    let (fits, second, here) = known (goal.at.returns-then-offset-clause-asked c).After-offset in
    let ff = c.ranges.from in
    rw c.joined.ensures (asked_found _ _ _ _ _ _ fits (omega linear) here (omega linear))

pub returns-clause-asked : goal.returns-clause-asked
returns-clause-asked c =
    let (fits, second, here) = known (goal.at.returns-clause-asked c).After-offset in
    asked_other _ _ _ _ _ _ here (λ e. omega linear)
