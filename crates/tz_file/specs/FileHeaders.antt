-- The headers of a TZif file (RFC 8536 section 3.1). The lines are the fields, in order.
use Rattle.std.specs.Prelude.{ℕ, ◌≡◌, ◌≢◌, ◌≤◌, ◌==◌, ◌⊎◌, List, [], ◌∷◌, length, take, drop, if◌then◌else◌}
use Rattle.std.specs.{Bool.{nat_eq}, Cmp.Lexicographic.{pointwise}}
use Rattle.std.proofs.{Common.{refl}, lemmas.{Bool.Decides.{Decides-eqb}, Slice.Eq.{slice_eq-Decides}}}
use Rattle.tz_base.specs.Grammar.{Grammar, Nothing, Marked, Exact, Refused, Check, Here, At, be_u32, ◌>>=◌, ◌>>◌}
use Rattle.tz_base.specs.{Steps.Comparisons.{alike, both, equal, one_of, unlike}, Tests.{Test}}
use Rattle.tz_file.specs.declared.header.{Place.{Place, TheVariants.{First, Second}}, Version.{Version, TheVariants.{One, Two, Three}}, Counts.{Counts}}
use Rattle.tz_file.specs.declared.header.Header.{Header}
use Rattle.tz_base.specs.Refusals as refused
use Rattle.tz_base.specs.declared.error.Expected.TheVariants as expected

-- `TZif`
abbrev pub magic : List ℕ
magic = 84 ∷ 90 ∷ 105 ∷ 102 ∷ []

abbrev pub magic_test : (four : List ℕ) → Test (four ≡ magic)
magic_test four = record { passes = pointwise nat_eq four magic; decides = slice_eq-Decides Decides-eqb four magic _ refl }

-- the first four bytes are not the magic
abbrev pub HasOtherMagic : List ℕ → Type 0
HasOtherMagic bytes = (4 ≤ length bytes) × (take 4 bytes ≢ magic)

-- other bytes are rejected at the first of the four
unfoldable pub tzif : Grammar (Unit {0})
tzif = Here λ at_magic. do
  four ← Exact 4
  At at_magic (Check (four ≡ magic) (magic_test four) (refused.InvalidTzFile expected.TZifAtFrontOfHeader) tt)

-- a second header is there from version 2 on
unfoldable pub version_1 : Place → Grammar Version
version_1 First = Nothing One
version_1 Second = Refused (refused.InvalidTzFile expected.Version2Or3InSecondHeader)

-- a 0 byte is version 1, the digits 2 and 3 are versions 2 and 3; any other byte is rejected, and a version is rejected at its byte
unfoldable pub version : Place → Grammar Version
version place = Here λ at_version. Marked 0 (At at_version (version_1 place))
    (Marked 50 (Nothing Two) (Marked 51 (Nothing Three) (do Exact 1; At at_version (Refused (refused.UnsupportedTzFile expected.Version1To3)))))

unfoldable pub six_counts : Grammar Counts
six_counts = do
  ut_local ← be_u32
  standard_wall ← be_u32
  leap_seconds ← be_u32
  transitions ← be_u32
  types ← be_u32
  designations ← be_u32
  Nothing (record {
    ut_local = ut_local;
    standard_wall = standard_wall;
    leap_seconds = leap_seconds;
    transitions = transitions;
    types = types;
    designations = designations;
  })

-- n indicators: none at all, or one for each type
abbrev pub IsNoneOrAll : ℕ → ℕ → Type 0
IsNoneOrAll types n = (n ≡ 0) ⊎ (n ≡ types)

abbrev pub none_or_all : (types n : ℕ) → Test (IsNoneOrAll types n)
none_or_all types n = one_of (equal n 0) (equal n types)

-- there is a type and a byte of designations, and indicators are given for no type or for each
pub record CountsAgree (c : Counts) : Type 0 where
  pub types : c.types ≢ 0
  pub designations : c.designations ≢ 0
  pub ut_local : IsNoneOrAll c.types c.ut_local
  pub standard_wall : IsNoneOrAll c.types c.standard_wall

abbrev pub counts_test : (c : Counts) → Test (CountsAgree c)
counts_test c = alike (λ ((some_types, some_designations), (ut_local, standard_wall)). record {
  types = some_types;
  designations = some_designations;
  ut_local = ut_local;
  standard_wall = standard_wall;
}) (λ a. ((a.types, a.designations), (a.ut_local, a.standard_wall)))
    (both (both (unlike c.types 0) (unlike c.designations 0)) (both (none_or_all c.types c.ut_local) (none_or_all c.types c.standard_wall)))

-- of counts that don't agree, how many bytes of the six are in front of the one that is rejected: that of types or of designations
-- if it is 0, or else that of UT/local or of standard/wall indicators
abbrev pub before_count : Counts → ℕ
before_count c =
    if c.types == 0 then 16 else (if c.designations == 0 then 20 else (if (none_or_all c.types c.ut_local).passes then 4 else 0))

-- `TZif`, a version, fifteen bytes of any value, six counts
unfoldable pub header : Place → Grammar Header
header place = do
  tzif
  version ← version place
  Exact 15
  Here λ at_counts. do
    counts ← six_counts
    At (drop (before_count counts) at_counts)
        (Check (CountsAgree counts) (counts_test counts) (refused.InvalidTzFile expected.CountsThatAgree) (record { version = version; counts = counts }))
