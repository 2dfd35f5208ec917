use Rattle.zonedump_lib.proofs.{CitedWords.{FitsSigned, rules, to_z-of_z, w32}, JsonPutting.{puts_then, wrote}}
use Rattle.zonedump_lib.proofs.json_text.put_turns.Goals as goal

pub returns : goal.returns
returns c =
    let start_fits : FitsSigned w32 c.dst_start_time.result = search rules in let end_fits : FitsSigned w32 c.dst_end_time.result = search rules in
    let std = rw c.std.ensures.value at c.in_ok-put_type.ensures in
    let dst = rw c.dst.ensures.value at c.in_ok-put_type-2.ensures in
    let start = rw (c.dst_start.ensures, c.dst_start_time.ensures) at (simp to_z-of_z at c.in_ok-put_moment.ensures) in
    let end = rw (c.dst_end.ensures, c.dst_end_time.ensures) at (simp to_z-of_z at c.in_ok-put_moment-2.ensures) in
    puts_then (wrote c.in_ok-begin_object.ensures) (puts_then std (puts_then dst (puts_then start (puts_then end (wrote c.end_object.ensures)))))
