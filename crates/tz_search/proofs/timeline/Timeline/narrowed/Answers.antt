use Rattle.tz_search.proofs.{SearchSteps.{near_earlier, near_later, time_read}, Words.{arith, length-map, linear, refl, ◌+◌, ◌/◌}}
use Rattle.tz_search.proofs.timeline.Timeline.narrowed.Goals.{else-second, then-second}
use Rattle.tz_search.proofs.timeline.Timeline.narrowed.Goals as goal

pub returns-clause-near : goal.returns-clause-near
returns-clause-near g c =
    let near = c.args.left in
    let long = length-map c.args.self.now g.T.Timed.time in
    let time = time_read g.T.Timed.time c.args.self.now _ _ (omega arith) c.read.ensures.item in
    elim c.if-second.branch [
      | then-second w ↦ rw w.first-is (near_later _ _ _ _ c.requires.near (omega arith) (omega arith) (omega arith) (omega linear))
      | else-second w ↦ rw w.first-is (near_earlier _ _ near _ (near.first + near.count / 2) c.requires.near refl (omega arith) (omega arith)
          (omega arith) (omega arith) (omega linear))
    ]
