use Rattle.zonedump_lib.proofs.{CitedWords.{TypeAt, changes_left, head_text, length, refl, string_bytes, ◌≡◌}, TableLaws.{near_years}}
use Rattle.zonedump_lib.proofs.tables.begin_table.Goals as goal

pub invariant_of-result : goal.invariant_of-result
invariant_of-result c = record {
  near =
      near_years (TypeAt c.args.zone.now) c.args.period.first c.args.period.last (changes_left c.changes_of-left.result) c.args.period.in_range
      c.changes_of-left.ensures;
}

pub returns : goal.returns
returns c =
    let left = changes_left c.changes_of-left.result in
    let same : changes_left c.changes_of-counted.result ≡ changes_left c.changes_of-left.result =
    c.one_change_law.ensures.lists c.args.zone.now _ _ (changes_left c.changes_of-counted.result) (changes_left c.changes_of-left.result)
    c.changes_of-counted.ensures c.changes_of-left.ensures in
    let count : c.in_ok-count.count ≡ length (changes_left c.changes_of-counted.result) = c.in_ok-count.ensures in
    let head : string_bytes c.push_head.new.out ≡ head_text c.args.zone.now c.args.period.first c.args.period.last c.in_ok-count.count =
    rw c.new-text.ensures.bytes at c.in_ok-push_head.ensures in
    (left, c.changes_of-left.ensures, rw (head, count, same) refl)
