use Rattle.zoned_round.proofs.{Words.{arith, floors, numbers, total, ℤ}, Instants.{total-gone}, Multiples.{way-down, way-near, way-up}}
use Rattle.zoned_round.proofs.laws.rounded_instants.Goals as goal

pub returns : goal.returns
returns g c =
    let T = g.T.DurationRound in
    let gone = λ (value answer : _) (way : ℤ). total-gone T.instant (T.IsMoved value) value answer way (g.met.T.DurationRound.moves value) in
    record {
      trunc = λ value answer span plain rounded.
          let at = gone value answer _ plain rounded.2 in let way = way-down (total (T.clock value)) span rounded.0.0 in
          (omega (arith, floors), omega (arith, floors));
      up = λ value answer span plain rounded.
          let at = gone value answer _ plain rounded.2 in let way = way-up (total (T.clock value)) span rounded.0.0 in
          (omega (arith, floors), omega (arith, floors));
      round = λ value down up near span plain below above rounded. grind (numbers, floors, way-near);
    }
