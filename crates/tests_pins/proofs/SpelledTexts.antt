-- What bytes spell, and that they spell nothing: what the grammar reads of them.
use Rattle.tz_info.proofs.PosixLaws.{posix_law, zone_in}
use Rattle.tz_info.specs.PosixZones.{posix_zone}
use Rattle.tz_base.specs.Trims.{trimmed}
use Rattle.tests_pins.proofs.Words.{Asks, Bool, Err, Error, FoldChoice, GapChoice, IsBadLine, IsPosixZone, IsTextFault, IsTzText, List, Ok, Query, Result}
use Rattle.tests_pins.proofs.Words.{Spells, TransitionRule, Zone, [], ap, choice, false, false≢true, inr, lawful, query_line, read, refl, sym, text, true, ℕ}
use Rattle.tests_pins.proofs.Words.{◌∙◌, ◌∷◌, ◌≡◌}
use Rattle.tz_base.proofs.ForCallers.{Decided}

-- the reader rejects the bytes, whatever the error
abbrev pub has_failed : {X : Type 0} → Result X Error → Bool
has_failed (Ok x) = false
has_failed (Err e) = true

pub never : {X : Type 0} {r : Result X Error} {P : X → Type 0} {F : Error → Type 0} → Decided X r P F → has_failed r ≡ true → (x : X) → P x → ⊥
never d failed x p = false≢true (ap has_failed (sym (d.again x p)) ∙ failed)

-- ---- TZ strings
pub spelled : (extended : Bool) (bytes : List ℕ) (r : TransitionRule) → read (text extended) bytes ≡ Ok (r, []) → IsTzText extended bytes r
spelled extended bytes r = (lawful (text extended) bytes).takes (r, [])

pub faulty : (extended : Bool) (bytes : List ℕ) (e : Error) → read (text extended) bytes ≡ Err e → IsTextFault extended bytes e
faulty extended bytes = (lawful (text extended) bytes).fails

pub not_spelled : (extended : Bool) (bytes : List ℕ) (r : TransitionRule) → has_failed (read (text extended) bytes) ≡ true → IsTzText extended bytes r → ⊥
not_spelled extended bytes r failed = never (lawful (text extended) bytes) failed (r, [])

pub zone_of : (b : ℕ) (bytes : List ℕ) (r : TransitionRule) → IsTzText false (trimmed (b ∷ bytes)) r → IsPosixZone (b ∷ bytes) (posix_zone r)
zone_of b bytes r spells = inr (record { some = λ e. cc; rule = r; spells = spells; zone = refl })

pub zone_spelled : (bytes : List ℕ) (z : Zone) → zone_in bytes ≡ Ok z → IsPosixZone bytes z
zone_spelled bytes = (posix_law bytes).takes

pub no_zone : (bytes : List ℕ) (z : Zone) → has_failed (zone_in bytes) ≡ true → IsPosixZone bytes z → ⊥
no_zone bytes z failed = never (posix_law bytes) failed z

-- ---- lines of `zoneq`
pub asks : (bytes : List ℕ) (query : Query) → read query_line bytes ≡ Ok (query, []) → Asks bytes query
asks bytes query = (lawful query_line bytes).takes (query, [])

pub bad_line : (bytes : List ℕ) → has_failed (read query_line bytes) ≡ true → IsBadLine bytes
bad_line bytes failed query = never (lawful query_line bytes) failed (query, [])

pub chooses : (gap : GapChoice) (fold : FoldChoice) (bytes : List ℕ) → read choice bytes ≡ Ok (record { gap = gap; fold = fold }, [])
    → Spells choice bytes (record { gap = gap; fold = fold }) []
chooses gap fold bytes = (lawful choice bytes).takes (record { gap = gap; fold = fold }, [])
