use Rattle.zonedump_lib.proofs.JsonPutting.{puts_then}
use Rattle.zonedump_lib.proofs.json_text.put_counts.Goals as goal

pub returns : goal.returns
returns c =
    let transitions = rw c.transition_count.ensures at c.in_ok-put_count.ensures in
    let types = rw c.type_count.ensures.count at c.put_count-2.ensures in
    puts_then transitions types
