use Rattle.zoneq_lib.proofs.CitedWords.{FitsSigned, arith, calendar_day, integer, ints, to_z-of_z, w32, w64}
use Rattle.zoneq_lib.proofs.{Covering.{dated, undated}, ScanLaws.{read_of}}
use Rattle.zoneq_lib.proofs.question.date.Goals as goal

pub returns-in-Some : goal.returns-in-Some
unfolding calendar_day
returns-in-Some c =
    let y = c.in_ok-year in let fits : FitsSigned w32 y.year = omega (arith, ints, y.ensures.least, y.ensures.most) in
    let wide : FitsSigned w64 y.year = omega (arith, ints) in let is = simp to_z-of_z at c.in-Some.ensures.value in
    let year = read_of (integer 262_143 262_142) c.args.text.now _ y.ensures.value in
    grind (arith, dated y.year c.in_ok-month.month c.in_ok-day.day c.in-Some.date is)

pub returns-in-None : goal.returns-in-None
unfolding calendar_day
returns-in-None c =
    let fits : FitsSigned w32 c.in_ok-year.year = omega (arith, ints, c.in_ok-year.ensures.least, c.in_ok-year.ensures.most) in
    grind (arith, to_z-of_z, undated)
