use Rattle.zonedump_lib.proofs.{CitedWords.{difference_value}, JsonPutting.{items_all, puts_then, wrote}}
use Rattle.zonedump_lib.proofs.difference_json.put_differences.Goals as goal

pub returns : goal.returns
returns c =
    rw (items_all difference_value c.args.found.now)
    (puts_then (wrote c.in_ok-key.ensures) (puts_then (wrote c.in_ok-begin_array.ensures) (puts_then c.in_ok-put_list.ensures (wrote c.end_array.ensures))))
