use Rattle.zonedump_lib.proofs.{CitedWords.{change_value}, JsonPutting.{items_all, puts_then, wrote}}
use Rattle.zonedump_lib.proofs.change_json.put_changes.Goals as goal

pub returns : goal.returns
returns c =
    rw (items_all change_value c.args.changes.now)
    (puts_then (wrote c.in_ok-key.ensures)
    (puts_then (wrote c.in_ok-begin_array.ensures) (puts_then c.in_ok-put_change_list.ensures (wrote c.end_array.ensures))))
