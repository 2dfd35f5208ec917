use Rattle.zonedump_lib.proofs.{CitedWords.{zone_value, ◌∙◌}, JsonPutting.{read_back, zone_shallow}}
use Rattle.zonedump_lib.proofs.json_text.write_text.Goals as goal

pub returns-clause-value : goal.returns-clause-value
returns-clause-value c =
    let j = zone_value c.args.name.now c.args.period.first c.args.period.last c.args.zone.now c.args.changes.now in
    (read_back c.into_inner.result.items c.put_zone.new.writer.before j c.put_zone.new.writer.tokens
    (rw c.new-writer.ensures.tokens at c.in_ok-put_zone.ensures.tokens)
    (c.in_ok-put_zone.ensures.before ∙ c.new-writer.ensures.before ∙ c.new.ensures.items) c.into_inner.ensures.items c.into_inner.ensures.reads_back
    (zone_shallow c.args.name.now c.args.period.first c.args.period.last c.args.zone.now c.args.changes.now)).0
