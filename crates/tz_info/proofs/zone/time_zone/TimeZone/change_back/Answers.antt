use Rattle.tz_info.proofs.{
  Fits.fits,
  FoldLaws.{begins_at, first_outside, fold_at, goes_back},
  Words.{SFits, by_lt_z, linear, pos, rules, to_z, w64, ◌-ℤ◌, ◌<ℤ◌, ◌≤ℤ◌},
  zone.time_zone.TimeZone.change_back.Goals.In-Some,
}
use Rattle.tz_info.proofs.zone.time_zone.TimeZone.change_back.Goals as goal

pub unreachable-requires : goal.unreachable-requires
unreachable-requires c =
    let fl = c.ranges.local in let ff = c.ranges.first in let fe = c.ranges.last in
    first_outside _ _ _ _ _ _ c.requires.ends (simp fits at c.loop-at.invariant) c.near_span_at-span.ensures (rw c.in_default.is tt)

-- the second before the change, and that its type and its place are those of the code
before : (c : In-Some)
    → SFits w64 c.args.local × SFits w64 c.args.first × SFits w64 c.args.last × SFits w64 c.in-Some.at × SFits w64 (c.in-Some.at -ℤ pos 1)
    × (c.args.first <ℤ c.in-Some.at) × (c.in-Some.at ≤ℤ to_z w64 c.loop-at.end-bits)
before c =
    let fl = c.ranges.local in let ff = c.ranges.first in let fe = c.ranges.last in
    let fa : SFits w64 c.in-Some.at = search rules in
    let back = simp fits at c.loop-at.invariant in
    let begun = begins_at _ _ _ _ _ _ c.requires.ends back c.near_span_at-span.ensures _ c.in-Some.is in
    (fl, ff, fe, fa, omega linear, begun.0, begun.1)

pub type_at-before-requires : goal.type_at-before-requires
type_at-before-requires c =
    let (fl, ff, fe, fa, fb, later, most) = before (goal.at.type_at-before-requires c).In-Some in
    simp fits (omega linear, omega linear)

pub returns-then-has_reached : goal.returns-then-has_reached
returns-then-has_reached c =
    let (fl, ff, fe, fa, fb, later, most) = before (goal.at.returns-then-has_reached c).In-Some in
    let reached = simp fits at (c.has_reached.ensures.0 c.if-has_reached.true) in
    simp fits (fold_at _ _ _ _ _ _ c.requires.ends (simp fits at c.loop-at.invariant) c.near_span_at-span.ensures _ _ c.requires.near_first
    c.requires.near_last c.in-Some.is (simp fits at c.type_at-before.ensures) reached)

pub loop-at-smaller : goal.loop-at-smaller
loop-at-smaller c = grind (linear, fits, before)

pub loop-at-preserved : goal.loop-at-preserved
loop-at-preserved c =
    let (fl, ff, fe, fa, fb, later, most) = before (goal.at.loop-at-preserved c).In-Some in
    let less = by_lt_z _ c.args.local (λ l. l)
    (λ m. let t = (simp fits at c.has_reached.ensures).1 m in cc) in
    simp fits (goes_back _ _ _ _ _ _ c.requires.ends (simp fits at c.loop-at.invariant) c.near_span_at-span.ensures _ _ c.requires.near_first
    c.requires.near_last c.in-Some.is (simp fits at c.type_at-before.ensures) less)
