use Rattle.zoned_round.proofs.Nearest.{above-least, below-greatest, nearest-of_all}
use Rattle.zoned_round.proofs.laws.multiples.Goals as goal

pub returns : goal.returns
returns c = record {
  below = below-greatest;
  above = above-least;
  nearest = λ n m span some k. rw k.1 ((nearest-of_all n span some k.0).0);
  tie = λ n m span some k same. rw k.1 ((nearest-of_all n span some k.0).1 (rw k.1 at same));
}
