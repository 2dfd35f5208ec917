use Rattle.std.proofs.lemmas.Bool.{false≢true, Decides.{nat_tests}}
use Rattle.zoned_ffi.proofs.{LimitLaws.{above_by, none_above}, Words.{arith, inr, ◌<◌, ◌≡◌, ◌⊎◌}}
use Rattle.zoned_ffi.proofs.opening.is_above_limits.Goals as goal

pub returns-in-None : goal.returns-in-None
returns-in-None c = (
  λ e. absurd (false≢true e),
  λ k. absurd (none_above c.args.kind c.args.bytes.now c.args.most_transitions c.args.most_leap_seconds c.in-None.ensures k),
)

pub returns-else-most_transitions-counts : goal.returns-else-most_transitions-counts
returns-else-most_transitions-counts c =
    let of_file : c.args.kind ≡ 0 = grind (arith, c.in-Some-File.ensures, c.in-Some-File.field-0-is) in
    let above = above_by c.args.kind c.args.bytes.now c.args.most_transitions c.args.most_leap_seconds c.in-Some.counts of_file c.in-Some.ensures in (
      λ more. above.0 (inr (grind (arith, nat_tests))),
      λ k. let either : (c.args.most_transitions < c.in-Some.counts.transitions) ⊎ (c.args.most_leap_seconds < c.in-Some.counts.leap_seconds) = above.1 k in
          grind (arith, nat_tests),
    )
