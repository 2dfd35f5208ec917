use Rattle.zoned.proofs.Words.{Instant, IsAt, IsMultiple, Reading, ahead, arith, floor_div, floors, home_law_of, ints, moved, multiple_below, nanos_of, refl}
use Rattle.zoned.proofs.Words.{subst, total, unsigned_abs, wall_of, zoned, ℤ, ◌+ℤ◌, ◌-ℤ◌, ◌∙◌, ◌≡◌}
use Rattle.zoned_round.proofs.ForCallers.{gone-back, way-down}
use Rattle.zoned.proofs.client_laws.truncated.Given as given
use Rattle.zoned.proofs.client_laws.truncated.Goals as goal

-- the stamp, and the multiple below
abbrev stamp : (g : given.Over) → goal.Start g → ℤ
stamp g c = total (wall_of c.args.instant.now)

abbrev below : (g : given.Over) → goal.Start g → ℤ
below g c = multiple_below (stamp g c) (unsigned_abs (nanos_of c.args.length))

-- the instant went from the one to the other
went : (g : given.Over) (c : goal.Start g)
    → total (zoned c.args.start.now).utc ≡ total (zoned c.args.instant.now).utc +ℤ (below g c -ℤ stamp g c)
went g c =
    let d = c.args.instant.now in
    gone-back {T = Instant _ _ _ _} (λ e. (zoned e).utc) (λ way e. IsAt (home_law_of g.Tz.TimeZone.meaning d) (moved (zoned d).utc way) (zoned e))
    d c.args.start.now (below g c -ℤ stamp g c) (λ _ _ is. is.utc) d.datetime.in_range.1 (way-down (stamp g c) _ c.requires.0.0).0 c.requires.2

-- and so did what clocks as far from UTC show
shown-at : (old new : Reading) (j k below : ℤ) → total new ≡ total old +ℤ (below -ℤ total (ahead old j)) → k ≡ j → total (ahead new k) ≡ below
shown-at old new j k below back same = rw same (omega (arith, floors, back))

pub returns-clause-not_later : goal.returns-clause-not_later
returns-clause-not_later g c = grind (arith, ints, floors, went g c)

pub returns-clause-near : goal.returns-clause-near
returns-clause-near g c = λ span length.
    let back = way-down (stamp g c) _ c.requires.0.0 in let gone = went g c in omega (arith, floors, back, gone, length)

pub returns-clause-multiple : goal.returns-clause-multiple
returns-clause-multiple g c = λ span length same.
    let Of : ℤ → Type 0 = λ n. IsMultiple (unsigned_abs n) (below g c) in
    let is = subst Of length (floor_div (stamp g c) (unsigned_abs (nanos_of c.args.length)), refl) in
    (is.0, shown-at (zoned c.args.instant.now).utc (zoned c.args.start.now).utc _ _ (below g c) (went g c) same ∙ is.1)
