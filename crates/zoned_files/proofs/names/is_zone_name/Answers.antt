use Rattle.std.proofs.{Common.{lit<, rules, tests}, lemmas.Iterator.{Search.{all_from_yields_List}, Splits.{YieldsList-from_str_split}}}
use Rattle.zoned_files.specs.ZoneNames.{is_part}
use Rattle.zoned_files.proofs.names.is_zone_name.Goals as goal

pub returns : goal.returns
returns c =
    all_from_yields_List is_part _ _ _ c.all.ensures.ran
    (YieldsList-from_str_split 47 c.args.text.now (lit< tt) c.split.ensures.text c.split.ensures.has_more c.split.ensures.pattern)
    (λ x b q k. search (rules, tests))
