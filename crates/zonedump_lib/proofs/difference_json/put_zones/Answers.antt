use Rattle.zonedump_lib.proofs.JsonPutting.{puts_then, wrote}
use Rattle.zonedump_lib.proofs.difference_json.put_zones.Goals as goal

pub returns : goal.returns
returns c =
    let ends = puts_then c.in_ok-put_bound.ensures
    (puts_then c.in_ok-put_bound-2.ensures (puts_then c.in_ok-put_differences.ensures (wrote c.end_object.ensures))) in
    puts_then (wrote c.in_ok-begin_object.ensures) (puts_then c.in_ok-put_string.ensures (puts_then c.in_ok-put_string-2.ensures ends))
