use Rattle.zonedump_lib.proofs.CitedWords.{FitsSigned, SFits, append_assoc, arith, ints, rules, to_z-of_z, w128, w64}
use Rattle.zonedump_lib.proofs.differences.push_difference.Goals as goal

pub returns : goal.returns
returns c =
    let ff : SFits w64 c.args.one.now.from = search rules in
    let fu : SFits w64 c.args.one.now.until = search rules in
    let gf : SFits w128 c.args.one.now.from = omega (arith, ints) in
    let gu : SFits w128 c.args.one.now.until = omega (arith, ints) in
    let fits : FitsSigned w64 c.seconds_ahead-moved.result = record { sfits = c.seconds_ahead-moved.type_inv } in
    simp append_assoc (simp append_assoc at (rw c.seconds_ahead-moved.ensures at (simp to_z-of_z at c.writeln.ensures.bytes)))
