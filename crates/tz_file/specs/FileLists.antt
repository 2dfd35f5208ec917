-- What the readers of a TZif file hand from one to the next, and what they return.
use Rattle.std.specs.Prelude.{ℕ, ◌≡◌, ◌⊎◌, ◌*◌, ◌+◌, ◌++◌, Result, Ok, Err, List, length, option_map}
use Rattle.tz_base.specs.{Grammar.{Grammar, read, from_fault}, declared.error.Error.{Error, TheVariants.{OutOfMemory}}}
use Rattle.tz_file.specs.{FileBlocks.{parts_of}, declared.{pieces.Pieces.{Pieces}, parts.FromParts.{FromParts}}}
use Rattle.tz_file.specs.FilePieces.{FilePieces, from_times, from_type_indexes, from_types, from_leap_seconds, from_ut_local}

-- what the pieces show
abbrev pub pieces_of : Pieces → FilePieces
pieces_of p = record {
  extended = p.extended;
  time_size = p.time_size;
  counts = p.counts;
  parts = parts_of p.block;
  footer = option_map (λ f. f.now) p.footer;
}

-- the parts are as long as the counts say
pub record HasLengths (p : FilePieces) : Type 0 where
  pub time_size : (p.time_size ≡ 4) ⊎ (p.time_size ≡ 8)
  pub times : length p.parts.times ≡ p.counts.transitions * p.time_size
  pub type_indexes : length p.parts.type_indexes ≡ p.counts.transitions
  pub types : length p.parts.types ≡ p.counts.types * 6
  pub leap_seconds : length p.parts.leap_seconds ≡ p.counts.leap_seconds * (p.time_size + 4)

-- and they end the file
pub record EndFile (bytes : List ℕ) (p : FilePieces) : Type 0 where
  pub lengths : HasLengths p
  pub before : List ℕ
  pub whole : bytes ≡ before ++ from_times p

-- the bytes from each part on
pub record AreFromParts (p : FilePieces) (from : FromParts) : Type 0 where
  pub times : from.times.now ≡ from_times p
  pub type_indexes : from.type_indexes.now ≡ from_type_indexes p
  pub types : from.types.now ≡ from_types p
  pub leap_seconds : from.leap_seconds.now ≡ from_leap_seconds p
  pub ut_local : from.ut_local.now ≡ from_ut_local p

-- `IsRead` of a call that may run out of memory
abbrev pub IsReadInMemory : {X Y : Type 0} → Grammar Y → List ℕ → (X → Y) → Result X Error → List ℕ → Type 0
IsReadInMemory g bytes view (Ok x) left = read g bytes ≡ Ok (view x, left)
IsReadInMemory g bytes view (Err e) left = (e ≡ OutOfMemory) ⊎ ((read g bytes ≡ Err e) × (left ≡ from_fault g bytes))
