use Rattle.zonedump_lib.proofs.{CitedWords.{FitsSigned, SFits, rules, to_z-of_z, w64}, JsonPutting.{puts_then, wrote}}
use Rattle.zonedump_lib.proofs.difference_json.put_difference.Goals as goal

pub returns : goal.returns
returns c =
    let fits : FitsSigned w64 c.seconds_ahead.result = record { sfits = c.seconds_ahead.type_inv } in
    let ff : SFits w64 c.args.one.now.from = search rules in
    let fu : SFits w64 c.args.one.now.until = search rules in
    puts_then (wrote c.in_ok-begin_object.ensures)
    (puts_then (simp to_z-of_z at c.in_ok-put_second.ensures)
    (puts_then (simp to_z-of_z at c.in_ok-put_second-2.ensures)
    (puts_then c.in_ok-put_type.ensures
    (puts_then c.in_ok-put_type-2.ensures
    (puts_then (rw (to_z-of_z fits, c.seconds_ahead.ensures) at c.in_ok-put_number.ensures) (wrote c.end_object.ensures))))))
