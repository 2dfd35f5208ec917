-- The words that this crate's proofs cite, passed on from std, from the crates below and from specs/.
pub use Rattle.std.{proofs.{Common.{None, Option, Some}, Math.ListN.{get_or-map}, lemmas.List.Elements.{All-contains_itself, All-map}}, specs.Coded.{Coded-set}}
pub use Rattle.std.specs.Coded.{coded_ℤ}
pub use Rattle.offset_core.{proofs.ForCallers.{IsWallAnswer-map_of}, specs.declared.{choice.Choice.{Choice}, local_result.LocalResult.{LocalResult}}}
pub use Rattle.offset_core.specs.declared.resolve_error.ResolveError.{ResolveError}
pub use Rattle.tz_base.specs.declared.change.Change.{Change}
pub use Rattle.tz_info.proofs.{ForCallers.{one_nearest, stays, type_decided, type_not_refused, type_once, wall_decided}, Words.{All, All-append, Bool}}
pub use Rattle.tz_info.proofs.Words.{FitsSigned, IsFirst, IsRuleOrNone, IsValid, LocalType, TypeAt, Zone, false, get_or, length, lies_in, true, ◌<◌, ◌≢◌}
pub use Rattle.tz_info.specs.declared.{rule.transition_rule.TransitionRule.{TransitionRule}, zone.ask.shown_seconds.ShownSeconds.{ShownSeconds}}
pub use Rattle.zoned_time.proofs.{ForCallers.{choice_decided, same_itself}, Words.{AreEndsOfDay, HasInstant, IsAt, IsBeforeGap, IsInRange, IsNeverOnDay}}
pub use Rattle.zoned_time.proofs.Words.{IsOffsetBeforeGap, IsReachedAt, IsTaken, IsUnresolved, IsWallAnswer, IsWide, IsWithinDay, IsZoneSecond, Law, List}
pub use Rattle.zoned_time.proofs.Words.{MatchOption, Meaning, Reading, SFits, SameLaw, SomeIff, Zoned, all_or_none, ap, arith, floor_div, home_law, in_seconds}
pub use Rattle.zoned_time.proofs.Words.{inl, inr, instant_of, ints, map_of, of_secs, one_wall_answer, option_map, pos, reading, refl, rules, seconds_of, subst}
pub use Rattle.zoned_time.proofs.Words.{suc, sym, to_z-of_z, w32, w64, zero, zoned, ℕ, ℤ, [], ◌*ℤ◌, ◌++◌, ◌+ℤ◌, ◌-ℤ◌, ◌∙◌, ◌∷◌, ◌≡◌, ◌≤ℤ◌, ◌⊎◌}
unfoldable pub use Rattle.zoned_time.proofs.Words.{year_of}
pub use Rattle.zoned_ref.specs.{OffsetAt.{offset_at, offset_with}, Offsets.{AreOffsetsOf, IsNarrow, rule_types}, Steps.OffsetAt.{one_offset}}
pub use Rattle.zoned_ref.specs.{TimeZoneRef.{off_of, zone_of}, ZoneChange.{IsAfter, change_of}, ZoneOffset.{law_of, meaning_of, type_of}}
pub use Rattle.zoned_ref.specs.declared.{time_zone_ref.TimeZoneRef.{TimeZoneRef}, zone_offset.ZoneOffset.{ZoneOffset}}
