use Rattle.zonedump_lib.proofs.{CitedWords.{changes_left, string_bytes}, TableLaws.{line_written, near_first, near_rest, one_less}}
use Rattle.zonedump_lib.proofs.tables.push_some.Goals as goal

pub loop-turn-preserved : goal.loop-turn-preserved
loop-turn-preserved c =
    let change = c.in-Some.change in
    let left = changes_left c.loop-turn.left in
    let rest = changes_left c.next.new.self in
    let first = c.in-Some.ensures.steps in
    record {
      near = near_rest change left rest first c.loop-turn.invariant.near;
      lines =
          line_written change left rest (string_bytes c.loop-turn.out) (string_bytes c.push_change.new.out) _ first
          c.in_ok-push_change-in-Some.ensures c.loop-turn.invariant.lines;
      count = one_less change left rest _ c.loop-turn._turn first c.loop-turn.invariant.count;
    }

pub push_change-requires : goal.push_change-requires
push_change-requires c =
    near_first c.in-Some.change (changes_left c.loop-turn.left) (changes_left c.next.new.self) c.in-Some.ensures.steps c.loop-turn.invariant.near
