use Rattle.tz_info.proofs.{ChangeLaws.{at_front, not_before, one_change, one_list_of_changes, one_nearest}, Words.linear}
use Rattle.tz_info.proofs.laws.changes.one_change_law.Goals as goal

pub returns : goal.returns
returns c = record {
  once = one_change;
  next = λ z s. one_nearest _ z _;
  previous = λ z s. one_nearest _ z _;
  lists = one_list_of_changes;
  first = λ z _ until c cs h.
      let here = (h.each c).0 (at_front c cs) in
      record { is = here.0; inside = grind linear; nearest = λ d is inside. let m = not_before c d cs h.rising in let e = h.each d in grind linear };
}
