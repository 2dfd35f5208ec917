-- The words that this crate's proofs cite, passed on from std, from the crates below and from specs/.
pub use Rattle.std.proofs.Common.{Err, List, MatchResult, None, Ok, Option, Result, Some, [], ap, append_assoc, arith, length, length-append, neg_ℤ, pos, rules}
pub use Rattle.std.proofs.Common.{subst, suc, sym, take, unsigned_abs, get_or, ℕ, ℤ, ◌*◌, ◌++◌, ◌+◌, ◌-◌, ◌<◌, ◌^◌, ◌∙◌, ◌∷◌, ◌≡◌, ◌≤◌}
pub use Rattle.std.proofs.{lemmas.{Fmt.{decimal_digit, decimal_step, length-decimal-le}, Int.{ints}, Str.{IsUtf8-append, IsUtf8-from_ascii}}, Props.{props}}
pub use Rattle.std.specs.{Fmt.{decimal}, Prelude.{IsAscii, ⊤}, Str.{IsUtf8}}
pub use Rattle.offset_core.specs.{Nanoseconds.{AreParts}, TimeDelta.{IsDeltaOf, nanos_of, sum_of}, declared.local_result.LocalResult.{LocalResult}}
pub use Rattle.offset_core.specs.{LocalResult.{map_of}, WallAnswer.{IsNeverShown, IsWallAnswer}, FixedOffset.{IsOffsetOf, printed_offset, seconds_of}}
pub use Rattle.offset_core.specs.{Offset.{IsWithinDay, offset_text, short_clock_text}, declared.fixed_offset.FixedOffset.{FixedOffset}}
