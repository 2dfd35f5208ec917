-- The words that this crate's proofs cite, passed on from std, from the crates below and from specs/.
pub use Rattle.std.proofs.{Common.{Ok, Option, Result, Some, get_or, map, string_bytes, take}, lemmas.Iterator.{items_from_collect}}
pub use Rattle.std.proofs.lemmas.{Iterator.Consumers.{YieldsList-from_first}, List.{flat_map_more, take_more}, Result.{IfOk-weaker, on_ok_weaker}}
pub use Rattle.std.specs.{List.{flat_map}, Prelude.{length, ◌+◌, ◌-◌, ◌<◌, ◌∷◌}}
pub use Rattle.json.specs.{Json.{Json, document, max_depth}, Lex.{tokens}, Print.{print}, Token.{Token, end_array}}
pub use Rattle.json.specs.{Tree.{depth, items_depth, items_tokens, json_tokens}, Value.{items_of}, Written.{Writes, Written}}
pub use Rattle.naive_base.proofs.Words.{neg_ℤ, ◌-ℤ◌, ◌≤ℤ◌}
pub use Rattle.tz_base.specs.{LocalTypes.{LocalType}, declared.change.Change.{Change}}
pub use Rattle.tz_info.proofs.Words.{All, AreChanges, Contains-get_or, FitsSigned, List, SFits, TypeAt, Zone, append-nil, append_assoc, arith, floors, ints, []}
pub use Rattle.tz_info.proofs.Words.{pos, refl, rules, to_z-of_z, w128, w32, w64, ℕ, ℤ, ◌++◌, ◌+ℤ◌, ◌∙◌, ◌≡◌, ◌≤◌}
pub use Rattle.tz_info.specs.declared.{rule.transition_rule.TransitionRule.{TransitionRule}, zone.ask.differences.Difference.{Difference}}
pub use Rattle.tz_base.specs.declared.leap_second.LeapSecond.{LeapSecond}
pub use Rattle.zonedump_lib.specs.{ChangeLines.{change_lines, change_text, ended_line}, ChangeValues.{change_value, name_value, type_value}}
pub use Rattle.zonedump_lib.specs.{DifferenceForms.{difference_lines, difference_value, differences_value, lone_value}, JsonSteps.{Puts}}
pub use Rattle.zonedump_lib.specs.{JsonValues.{leap_value, rule_value, zone_value}, Periods.{IsPeriod, bound_value, first_second, second_after}}
pub use Rattle.zonedump_lib.specs.{Periods.{IsInYears, IsNearYears}, declared.period.Bound.{Bound}}
pub use Rattle.zonedump_lib.specs.{Tables.{counts_text, head_text, leap_lines, leap_text, rule_text, period_text}, ZdumpLines.{pair_lines, second_text}}
unfoldable pub use Rattle.tz_info.proofs.Words.{changes_left}
