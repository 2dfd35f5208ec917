-- Bytes that each written TZif file has (RFC 8536 section 3).
use Rattle.std.specs.Prelude.{ℕ, Bool, if◌then◌else◌, List, [], ◌∷◌, ◌++◌}
use Rattle.tz_file.specs.declared.header.Counts.{Counts}

-- the byte of version 2, or of version 3, whose footer may have extensions
abbrev pub version_byte : Bool → ℕ
version_byte extended = if extended then 51 else 50

-- the least counts of a block: one type and one byte of designations
abbrev pub least_counts : Counts
least_counts = record { ut_local = 0; standard_wall = 0; leap_seconds = 0; transitions = 0; types = 1; designations = 1 }

-- a text between newlines
abbrev pub footer_bytes : List ℕ → List ℕ
footer_bytes text = 10 ∷ (text ++ 10 ∷ [])
