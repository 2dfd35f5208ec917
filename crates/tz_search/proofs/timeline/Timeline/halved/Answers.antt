use Rattle.tz_search.proofs.{SearchSteps.{left_earlier, left_later, time_read}, Words.{arith, length-map, linear, ◌+◌, ◌/◌}}
use Rattle.tz_search.proofs.timeline.Timeline.halved.Goals as goal

pub returns-then-second-clause-left : goal.returns-then-second-clause-left
returns-then-second-clause-left g c =
    let left = c.args.left in
    let long = length-map c.args.self.now g.T.Timed.time in
    let time = time_read g.T.Timed.time c.args.self.now _ _ (omega arith) c.read-item.ensures.item in
    let later = left_later _ _ left.first (left.first + left.count / 2) _ c.requires.left (omega arith) (omega linear) in grind arith

pub returns-else-second-clause-left : goal.returns-else-second-clause-left
returns-else-second-clause-left g c =
    let long = length-map c.args.self.now g.T.Timed.time in
    let time = time_read g.T.Timed.time c.args.self.now _ _ (omega arith) c.read-item.ensures.item in
    left_earlier _ _ _ _ _ c.requires.left (omega arith)
    (omega arith) (omega linear)
