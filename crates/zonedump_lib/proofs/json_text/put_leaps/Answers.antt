use Rattle.zonedump_lib.proofs.{CitedWords.{leap_value}, JsonPutting.{items_all, puts_then, wrote}}
use Rattle.zonedump_lib.proofs.json_text.put_leaps.Goals as goal

pub returns : goal.returns
returns c =
    rw (items_all leap_value c.args.zone.now.leaps)
    (puts_then (wrote c.in_ok-key.ensures)
    (puts_then (wrote c.in_ok-begin_array.ensures) (puts_then (rw c.leap_seconds.ensures at c.in_ok-put_leap_list.ensures) (wrote c.end_array.ensures))))
