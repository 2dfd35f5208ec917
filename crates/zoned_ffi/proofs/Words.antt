-- The words that this crate's proofs cite, passed on from std, from the crates below and from specs/.
pub use Rattle.std.proofs.{Common.{Err, Fits, None, Ok, Option, Result, Some, lit<, slice_set, take_all, ◌-◌}, GlobalToken.{dealloc_token-Testable}}
pub use Rattle.std.proofs.{Math.IntN.{+ℤ-neg_ℤ_cancel}, ResultValues.{and_tt}, alloc.{Calls.{handle_tells}, Shapes.{after}}, cell.Inside.{Good}}
pub use Rattle.std.proofs.lemmas.{Bool.{and_parts}, List.{drop-drop, drop-set-lt, length-set, map-append, Elements.{All-contains, All-replicate, All-set}}}
pub use Rattle.std.{proofs.{option.Made.{Some-of, none_of}, raw_atomic.Walks.{leaves, proved, proved_at}}, specs.{List.{AllZip}, Prelude.{drop}}}
pub use Rattle.core.specs.declared.alloc.Allocator.{Ghosts}
pub use Rattle.std_alloc.specs.Box.Ownership.{box_owns}
pub use base.{Fml.{Fml, Lft, Share, flft, fsep, ftrue}, Fraction.{full_share}, Logic.{SProp, emp, ent, fst∗, guard, guard_i, id⊢, never, sep, snd∗, upd_i, via}}
pub use base.Shift.{Keyless}
unfoldable pub use base.Fml.{fseps}
pub use contract.{BorrowLft.{meet_⊑_left, ◌⊑◌}, Monad.{fact, fact_i, fact_use}, Running.{tables}}
pub use denote.{Builtin.{RawPtr, RefOf}, Exit.{no, yes}, Memory.{cell_at, lone}, Moves.{moves_from}, Opens.{hide}, Param.{bounded, layout, param, Laws.{Laws}}}
pub use denote.{Param.{Laws.{param_laws}, Send.{IsSend, IsSync, owning_send, part_keyless, sendable, struct_send}}, RattleType.{RattleType, RowLaws, Valss}}
pub use denote.{RattleType.{owns}, RawPtr.{Ptr, Testable, block_ptr, in_a_block, lies_at, null_ptr, ptr_val, tests_null}, Sharing.{ShrLaws}}
pub use denote.{SharingLaws.{contraction}, Signature.{plain, type_at, types_at}, Steps.{heard, looks, nothing, only, shuts}, Struct.Lending.{lent_at}}
pub use denote.{Struct.{Lending.{lent_at_shr_laws}, Owning.{fields, shape, to}, Struct.{exits_of, within}, Tuple.{Tuple}}, Triple.Call.{calls_at}}
pub use denote.Triple.{Call.{calls_at_last}, Clauses.{Lasts, lasts}, Spec.{triple_of}, Table.{framed}, Walked.{Goes-dropped, Stays, stay_dropped, walk_of}}
unfoldable pub use denote.Memory.{part_of}
pub use ghost.Rules.{Halves}
pub use lib.Dec.{T}
pub use mir.{MapTy.{inst_fn}, Syntax.{a_type, dcons, dnil, impl, named, tnil}, Val.{Val, WT, has_ty, of_list, vcons, vnil, vptr, vstruct}}
unfoldable pub use prog.Wp.{WpFn}
pub use seplogic.Ra.Ura.{Ura}
pub use types.{ByLocal.{alloc_all, env, free_all, get, get_in, lands_as, lands_last, look_at, pass_all, sets, sets_last, through}, Kit.{Goal, Item, Seq, Step}}
pub use types.Kit.{at_ret, await, by, feq_i, feq_l, fjoin, fpack, fpick, fsplit, join, keep, later, move, pick, qed, raw, rewrite, some, split, split3, step}
pub use types.{Kit.{suffices, use0, use1, !, ‵, ◌$◌, ◌∵◌, ◌⊛◌}, Logic.{Logic, sem}, Match.{live}, Part.{agg, look_in, sub, whole}, Run.{and_then, bin, blocks}}
pub use types.Run.{branches, enter, exec, first, fld, lit, no_more, of_opd, returns, stop}
pub use Rattle.offset_core.{proofs.ForCallers.{IsWallAnswer-map_of, taken_in_range, taken_right}, specs.Around.{taken_of}}
pub use Rattle.offset_core.specs.{declared.local_result.LocalResult.{LocalResult}, WallAnswer.{IsShownOnce}}
pub use Rattle.naive_base.{proofs.Words.{IsInRange}, specs.Range.{first_second}}
pub use Rattle.tz_base.specs.declared.{change.Change.{Change}, error.Error.{Error}}
pub use Rattle.tz_info.proofs.Words.{AreChanges, Bor, FitsSigned, IfErr, IsOutOfMemory, IsPosixFault, IsPosixZone, IsUtOffset, IsUtf8, IsWallAnswer}
pub use Rattle.tz_info.proofs.Words.{IsZoneFault, List, LocalType, MatchOption, Shows, TypeAt, Zone, ap, append_assoc, arith, floor_div, floors, get_or, inl}
pub use Rattle.tz_info.proofs.Words.{inr, ints, length, length-append, map, neg_ℤ, error_number, pos, refl, rules, subst, suc, sym, take, to_z-of_z, true, w128}
pub use Rattle.tz_info.proofs.Words.{w32, w64, zero, ℕ, ℤ, [], ◌&&◌, ◌*ℤ◌, ◌*◌, ◌++◌, ◌+ℤ◌, ◌+◌, ◌-ℤ◌, ◌<ℤ◌, ◌<◌, ◌∙◌, ◌∷◌, ◌≡◌, ◌≤ℤ◌, ◌≤◌, ◌⊎◌}
pub use Rattle.tz_info.specs.{Windows.{IsGreatest, IsLeast, offsets}, declared.rule.transition_rule.TransitionRule.{TransitionRule}}
pub use Rattle.tz_file.specs.{declared.pieces.FileCounts.{FileCounts}, FilePieces.{HasCounts}}
pub use Rattle.tz_info.specs.declared.zone.ask.offset_stretch.OffsetStretch.{OffsetStretch}
unfoldable pub use Rattle.tz_info.proofs.Words.{changes_left}
pub use Rattle.zoned_ffi.specs.{Columns.{IsNoInstant}, WrittenTypes.{AreOffsetsAt, IsWrittenOffsetAt}, Kinds.{IsAboveLimits}, Owned.{boxed, held, lent, loan}}
pub use Rattle.zoned_ffi.specs.{Owned.{shared_row}, Refusals.{IsErrorOfKind, IsExtendedFault, IsFault, IsFileError, IsStringError, detail_number}}
pub use Rattle.zoned_ffi.specs.{Resolved.{AreReached, AreResolved, IsReachedAt, IsResolvedAt, IsTakenType, policy_of}, Steps.KeptTimes.{AreKept, AreKeptTimes}}
pub use Rattle.zoned_ffi.specs.Steps.{KeptTimes.{AreWritten, IsKept, IsWritten}, ResolvedInstants.{IsResolvedStamp, IsTakenAs, taken_instant}, Told.{told_of}}
pub use Rattle.zoned_ffi.specs.{Texts.{IsSaidOf}, Units.{IsOffsetStretch, no_type, per_second}, WallClocks.{AreWallClocks, IsWallClockAt, ShowsAt}}
pub use Rattle.zoned_ffi.specs.{WrittenChanges.{AreFirstWritten, written_change, written_into}, WrittenTypes.{AreWrittenTypesAt, IsWrittenTypeAt}}
pub use Rattle.zoned_ffi.specs.declared.{changes.WrittenChange.{WrittenChange}, choice.Choice.{Choice}, column.kept.Kept.{Kept}, kind.Kind.{Kind}}
pub use Rattle.zoned_ffi.specs.declared.{refusal.Refusal.{Refusal}, resolved.{Resolved.{Resolved}, Taken.{Taken}}, unit.Unit.{Unit}}
pub use Rattle.zoned_ffi.specs.declared.local_result.WrittenLocalResult.{WrittenLocalResult}

-- a signed number fits 64 bits
abbrev pub Fits64 : ℤ → Type 0
Fits64 n = FitsSigned w64 n

-- signed numbers that are passed on
pub ruleset casts = (ints, to_z-of_z)
