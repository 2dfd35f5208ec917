-- The words that this crate's proofs cite, passed on from std, from the crates below and from specs/.
pub use Rattle.std.proofs.{Common.{Err, None, Ok, OnOk, Option, Result, Some, codes}, Math.Seq.{take-add, take-append-add}, lemmas.List.{drop_all, drop_more}}
pub use Rattle.std.proofs.lemmas.{List.Elements.{All-cons, All-head, All-nil, All-tail}, Result.{on_ok_weaker}}
pub use Rattle.std.specs.{Io.KnownBytes.{Appends, Consumes, IsAtEnd, Keeps}, List.{AllPass, flat_map}}
pub use Rattle.offset_core.specs.declared.choice.Choice.{Choice}
pub use Rattle.naive_base.proofs.Words.{IsDateOf, IsDayInRange, IsYearInRange, ◌^◌}
pub use Rattle.tz_base.specs.{Fronts.{AllOf, after_run, is_digit, number_within, run_of, value_from}, Grammar.{Number}, declared.error.Error.{Error}}
pub use Rattle.tz_info.proofs.Words.{Exact, IfErr, IsPosixZone, IsTzFile, Spells, append-nil, append_assoc, days_in_month, drop, exact_cut, is_leap, lawful}
pub use Rattle.tz_info.proofs.Words.{length-append, length-take, nat_le, nat_tests, nil_from_length, read, take, take-append-drop, ◌%◌, ◌&&◌, ◌*◌, ◌+◌, ◌-◌}
pub use Rattle.tz_info.proofs.{ForCallers.{file_fault_or_zone, file_rule_fits, posix_zone_valid, text_fault_or_zone, type_error_number}, Words.{◌≤◌}}
pub use Rattle.zoned_time.proofs.Words.{IsResolved, MatchResult, behind, by_lt_z, in_range_or_not, neg_ℤ}
pub use Rattle.zoned_ref.proofs.Words.{All-append, Bool, FitsSigned, IsInRange, IsRuleOrNone, IsTaken, IsValid, IsZoneSecond, List, LocalType, Reading, Zone}
pub use Rattle.zoned_ref.proofs.Words.{Zoned, ap, arith, false, get_or, inl, inr, ints, law_of, length, of_secs, pos, refl, subst, suc, sym, to_z-of_z, true}
pub use Rattle.zoned_ref.proofs.Words.{type_decided, w32, w64, wall_decided, zero, ℕ, ℤ, ◌++◌, ◌-ℤ◌, ◌<◌, ◌∙◌, ◌∷◌, ◌≡◌, ◌≢◌, ◌⊎◌, []}
pub use Rattle.zoneq_lib.specs.{Answers.{AnswersLine, AnswersLines, AnswersQuery}, Runs.{HasNoNewline, IsSplit, ended_lines, without_return}}
pub use Rattle.zoneq_lib.specs.{Questions.{Asks, IsBadLine, Query}, Runs.{Answers, StopsWith}, Steps.Outcomes.{Answered, AnswersAfter, AnswersIn, StopsIn}}
pub use Rattle.zoneq_lib.specs.{Steps.Outcomes.{AnswersAtEnd, AnswersLast, IsHopeless, IsKeptFor, StopsAtEnd}, declared.bad_line.BadLine.{BadLine}}
unfoldable pub use Rattle.tz_base.specs.Fronts.{int_at, optional_tag_at, tag_at}
unfoldable pub use Rattle.tz_info.proofs.Words.{exact_at}
unfoldable pub use Rattle.zoneq_lib.specs.Questions.{Begins, Word, at_query, calendar_day, data_query, integer, local_time, next, query_line, question}
unfoldable pub use Rattle.zoneq_lib.specs.Questions.{resolve_query, show_query, wall_query}
