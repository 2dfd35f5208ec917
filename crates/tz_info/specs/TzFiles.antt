-- Whole TZif files: the lists that their bytes spell, and what is wrong with them (RFC 8536 section 3).
use Rattle.std.specs.Prelude.{List, [], ℕ}
use Rattle.tz_base.specs.{Grammar.{Grammar, Nothing, Each, Spells, HasFault, ◌>>=◌, ◌>>◌}, declared.error.Error.{Error, TheVariants.{OutOfMemory}}}
use Rattle.tz_info.specs.Zones.{Zone, ListFault}
use Rattle.tz_file.specs.FileContents.{transition_at, leap_at, type_at, indicators, values_below}
use Rattle.tz_info.specs.Footers.{optional_footer}
use Rattle.tz_file.specs.FilePieces.{FilePieces, HasPieces, file}

-- what whole pieces say; the types are judged first, then the indicators and the footer
unfoldable pub contents : FilePieces → Grammar Zone
contents p = do
  types ← Each p.counts.types (type_at p)
  indicators p
  rule ← optional_footer p.extended p.footer
  Nothing (record {
    transitions = values_below p.counts.transitions (transition_at p);
    types = types;
    leaps = values_below p.counts.leap_seconds (leap_at p);
    rule = rule;
  })

-- the pieces, and then what they say
unfoldable pub tz_file : Grammar Zone
tz_file = do
  pieces ← file
  contents pieces

-- the bytes are a file that says those lists, which need not make a valid zone
abbrev pub IsTzFile : List ℕ → Zone → Type 0
IsTzFile bytes z = Spells tz_file bytes z []

-- the first fault of bytes that spell no valid zone: of a piece or of what the pieces say; else of the lists that they say
pub data IsFileFault (bytes : List ℕ) : Error → Type 0 where
  Not_spelled : (e : Error) → HasFault tz_file bytes e → IsFileFault bytes e
  Not_valid : (z : Zone) (e : Error) → IsTzFile bytes z → ListFault z e → IsFileFault bytes e

-- why no zone is made of bytes: their first fault, or too little memory, once all pieces are there
pub data IsZoneFault (bytes : List ℕ) : Error → Type 0 where
  In_file : (e : Error) → IsFileFault bytes e → IsZoneFault bytes e
  No_memory : (p : FilePieces) → HasPieces bytes p → IsZoneFault bytes OutOfMemory
