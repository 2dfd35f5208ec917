use Rattle.tz_base.specs.declared.error.{Error.TheVariants.{InvalidTzFile}, Expected.TheVariants.{StandardTimeWhereTimeIsUt}}
use Rattle.tz_file.proofs.{FilePieceLaws.{each_fails}, Words.{ap, drop, false, pair_test, pieces_of, refl, sym, ◌∙◌, ◌≡◌}}
use Rattle.tz_file.specs.FileContents.{indicators, pair_at}
use Rattle.tz_file.proofs.contents.check_indicators.Goals as goal

pub returns-then-not-pair_agrees : goal.returns-then-not-pair_agrees
unfolding indicators pair_at
returns-then-not-pair_agrees c =
    let p = pieces_of c.args.pieces.now in
    let other : (pair_test p.parts.standard_wall p.parts.ut_local c.loop-k.k).passes ≡ false = sym c.pair_agrees.ensures ∙ c.if-not-pair_agrees.true in
    let f = each_fails (pair_at p) _ _ _ _ _ (InvalidTzFile StandardTimeWhereTimeIsUt) c.loop-k-test.true c.loop-k.invariant (rw other refl) in
    (rw f.0 refl, c.new.ensures ∙ c.after.ensures ∙ ap (drop c.loop-k.k) c.from_parts.ensures.ut_local ∙ rw (f.0, f.1) refl)
