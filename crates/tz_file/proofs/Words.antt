-- The words that this crate's proofs cite, passed on from std, from tz_base and from specs/.
pub use Rattle.std.proofs.{
  Common.{Err, List, Ok, Some, [], ap, append_assoc, arith, drop, false, inl, inr, length, length-append, not, refl, subst, suc, sym, to_z-of_z},
  Common.{vec_capacity, vec_len, zero, ℕ, ◌++◌, ◌+◌, ◌<◌, ◌==◌, ◌↔◌, ◌∙◌, ◌∷◌, ◌≡◌, ◌⊎◌},
  lemmas.{Bool.{cases_lt}, Int.{ints}, List.{append-nil}, Result.{err_from_is_err_and}},
}
pub use Rattle.tz_base.proofs.ForCallers.{drop_front, lawful, runs_are, tested}
pub use Rattle.tz_base.specs.{Grammar.{Exact, Spells, read}, declared.error.Error.{Error}}
pub use Rattle.tz_file.specs.{FileBlocks.{Parts}, FileContents.{leap_at, pair_test, values_below}, FileLists.{EndFile, HasLengths, pieces_of}}
pub use Rattle.tz_file.specs.{FilePieces.{FilePieces, HasCounts, HasPieces, footer_bytes, from_times}, declared.header.Version.{Version}}
pub use Rattle.tz_file.specs.declared.pieces.FileCounts.{FileCounts}
unfoldable pub use Rattle.tz_file.specs.{FileBlocks.{block}, FilePieces.{after_first_block, file, first_version, later_version}}
