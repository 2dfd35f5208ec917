use Rattle.zonedump_lib.proofs.JsonPutting.{puts_then, wrote}
use Rattle.zonedump_lib.proofs.json_text.put_zone.Goals as goal

pub returns : goal.returns
returns c =
    let others = puts_then c.in_ok-put_rule.ensures
    (puts_then c.in_ok-put_leaps.ensures (puts_then c.in_ok-put_changes.ensures (wrote c.end_object.ensures))) in
    let ends = puts_then c.in_ok-put_bound.ensures (puts_then c.in_ok-put_bound-2.ensures (puts_then c.in_ok-put_counts.ensures others)) in
    puts_then (wrote c.in_ok-begin_object.ensures) (puts_then c.in_ok-put_string.ensures ends)
