-- The words that the proofs of this crate and of those above it cite, passed on from std, from the crates below and from specs/.
use Rattle.std.proofs.lemmas.{Grind.elements, List.{flat_map_more, take_more}}
pub use Rattle.std.{proofs.lemmas.{Bool.both_ways, Result.on_err_weaker}, proofs.Common.{None, Option, Some, ◌^◌}, specs.List.{flat_map, fold}}
pub use Rattle.tz_base.specs.{Fronts.{AllOf, NoneFirst, is_digit, run_of}, Grammar.Without, Names.is_name_byte}
pub use Rattle.tz_info.proofs.Words.{[], All, Bool, HasPieces, IsNameOrNone, IsRule, IsRuleOrNone, IsTzText, List, LocalType, MatchOption, Parts, Spells, Zone}
pub use Rattle.tz_info.proofs.Words.{ap, append-nil, append_assoc, arith, cond, drop, false, is_not_zero, false≢true, get_or, inl, inr, ints, length}
pub use Rattle.tz_info.proofs.Words.{length-append, list_all, magic, nat_tests, not, pos, refl, rules, subst, suc, sym, take, true, unsigned_abs, zero, ℕ, ℤ}
pub use Rattle.tz_info.proofs.Words.{◌%◌, ◌&&◌, ◌*◌, ◌++◌, ◌+ℤ◌, ◌+◌, ◌/◌, ◌<ℤ◌, ◌<◌, ◌==◌, ◌↔◌, ◌∙◌, ◌∷◌, ◌≡◌, ◌≢◌, ◌≤ℤ◌, ◌≤◌, ◌⊎◌}
pub use Rattle.tz_file.specs.FileHeaders.{counts_test}
pub use Rattle.tz_info.specs.{TzGrammar.{colon, comma, greater, less, slash}, declared.rule.transition_rule.TransitionRule.{TransitionRule}}
pub use Rattle.tz_write.specs.{
  FileDesignations.{AreShortest, HasNoZero, IsNamedIn, StandsAt, name_of, name_or_none},
  Steps.{
    LaidFiles.{index_bytes, time_bytes},
    LaidNames.{HasPlace, HavePlaces, place_of, placed_otherwise, with_text_of},
    TextPieces.{spelled_pair, spelled_rule},
  },
  WrittenFiles.{HasIndex, HasTimeOf64Bits, IsEntry, IsType},
  WrittenTexts.{AreInPairs, IsWrittenText, IsWrittenZone},
  declared.file.writer.Room.Room,
}
unfoldable pub use Rattle.tz_base.specs.Grammar.{be_u32}
unfoldable pub use Rattle.tz_info.proofs.Words.{after_first_block, block, file, first_version, later_version}
unfoldable pub use Rattle.tz_file.specs.{FileContents.{signed}, FileHeaders.{header, six_counts, tzif, version, version_1}}
unfoldable pub use Rattle.tz_write.specs.{
  Steps.LaidFiles.{counts_bytes, file_bytes, first_half, header_bytes, laid_file, leap_bytes, number_bytes, second_half, signed_bytes, type_bytes},
  Steps.LaidNames.{begins, laid_names},
}

-- what a loop appends for each item
pub ruleset appended = (elements, flat_map_more, take_more)
