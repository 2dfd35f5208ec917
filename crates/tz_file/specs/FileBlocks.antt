-- The data blocks of a TZif file (RFC 8536 section 3.2). The lines of `block` are the parts, in order.
use Rattle.std.specs.Prelude.{ℕ, ◌+◌, ◌*◌, List}
use Rattle.tz_base.specs.Grammar.{Grammar, Nothing, Exact, ◌>>=◌}
use Rattle.tz_file.specs.declared.{header.Counts.{Counts}, block.Block.{Block}}

-- the parts of a block
pub record Parts : Type 0 where
  pub times : List ℕ
  pub type_indexes : List ℕ
  pub types : List ℕ
  pub designations : List ℕ
  pub leap_seconds : List ℕ
  pub standard_wall : List ℕ
  pub ut_local : List ℕ

abbrev pub parts_of : Block → Parts
parts_of b = record {
  times = b.times.now;
  type_indexes = b.type_indexes.now;
  types = b.types.now;
  designations = b.designations.now;
  leap_seconds = b.leap_seconds.now;
  standard_wall = b.standard_wall.now;
  ut_local = b.ut_local.now;
}

-- the block that the counts announce, whose times have that many bytes each
unfoldable pub block : ℕ → Counts → Grammar Parts
block time_size c = do
  times ← Exact (c.transitions * time_size)
  type_indexes ← Exact c.transitions
  types ← Exact (c.types * 6)
  designations ← Exact c.designations
  leap_seconds ← Exact (c.leap_seconds * (time_size + 4))
  standard_wall ← Exact c.standard_wall
  ut_local ← Exact c.ut_local
  Nothing (record {
    times = times;
    type_indexes = type_indexes;
    types = types;
    designations = designations;
    leap_seconds = leap_seconds;
    standard_wall = standard_wall;
    ut_local = ut_local;
  })
