use Rattle.tz_info.proofs.{Fits.fits, OffsetChanges.rule_keeps, Words.{SFits, arith, ints, w64, ◌≡◌}}
use Rattle.tz_info.proofs.zone.time_zone.TimeZone.last_of_offsets.Goals as goal

pub returns-then-begin : goal.returns-then-begin
returns-then-begin c =
    let fw = c.rule_begin-begin.type_inv in
    let fb : SFits w64 c.rule_begin-begin.result = omega (arith, ints) in
    let same : c.in-Some.turns.now.std.offset ≡ c.in-Some.turns.now.dst.offset =
    grind arith in
    simp fits (rule_keeps _ _ _ (rw (← c.self.view_is) c.self.invariant.valid)
    c.in-Some.ensures c.rule_begin-begin.ensures.begin same)
