use Rattle.zonedump_lib.proofs.JsonPutting.{puts_then, wrote}
use Rattle.zonedump_lib.proofs.json_text.put_weekday.Goals as goal

pub returns : goal.returns
returns c =
    puts_then (wrote c.in_ok-begin_object.ensures)
    (puts_then c.in_ok-put_string.ensures
    (puts_then c.in_ok-put_count.ensures (puts_then c.in_ok-put_count-2.ensures (puts_then c.in_ok-put_count-3.ensures (wrote c.end_object.ensures)))))
