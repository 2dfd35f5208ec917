-- What may answer a line, by the latest zone that an earlier line gave, and the zone that the line leaves.
use Rattle.std.specs.{Prelude.{◌≡◌, ℕ, ℤ, List, [], ◌∷◌, ◌++◌, ◌⊎◌, Bool, true, false, Option, Some, None, length, codes, decimal}, Fmt.{signed_decimal}}
use Rattle.offset_core.specs.{Offset.{offset_text}, WallAnswer.{IsWallAnswer}, declared.{choice.Choice.{Choice}, local_result.LocalResult.{LocalResult}}}
use Rattle.offset_core.specs.{ResolveNumbers.{resolve_error_number as resolve_number}, declared.resolve_error.ResolveError.{ResolveError}}
use Rattle.naive_base.specs.{Reading.{Reading, ahead}, Text.{reading_text}, Stamp.{IsStamp, of_secs}}
use Rattle.tz_base.specs.{Errors.{error_number, IsOutOfMemory}, LocalTypes.{LocalType}, declared.error.Error.{Error}}
use Rattle.tz_file.specs.FilePieces.{FilePieces, HasPieces}
use Rattle.tz_info.specs.{PosixZones.{IsPosixZone, IsPosixFault}, TzFiles.{IsTzFile, IsFileFault}, WallClocks.{Shows}}
use Rattle.tz_info.specs.{Zones.{Zone, IsValid, TypeAt, IsTypeRefused}, declared.rule.transition_rule.TransitionRule.{TransitionRule}}
use Rattle.zoned_time.specs.{Choice.{IsResolved, IsUnresolved}, Zone.{Meaning, Law, meaning_by_seconds, law_by_seconds}, Zoned.{Zoned}}
use Rattle.zoned_ref.specs.Offsets.{IsNarrow, AreOffsetsOf}
use Rattle.zoneq_lib.specs.Questions.{Query, Text, Data, At, Wall, Resolve, Show, Asks, IsBadLine}
use Rattle.offset_core.specs.declared.local_result.LocalResult.TheVariants as results
use Rattle.tz_info.specs.declared.rule.transition_rule.TransitionRule.TheVariants as rules

abbrev pub shown_mark : Bool → List ℕ
shown_mark true = codes "dst"
shown_mark false = codes "std"

abbrev pub shown_name : Option (List ℕ) → List ℕ
shown_name None = codes "-"
shown_name (Some name) = name

-- a local time type: `OFFSET std NAME` or `OFFSET dst NAME`, with `-` for no name
abbrev pub shown_type : LocalType → List ℕ
shown_type t = signed_decimal t.offset ++ codes " " ++ shown_mark t.dst ++ codes " " ++ shown_name t.name

-- the types at the seconds at which a clock shows a local time: at none, at one, or at the first and the last of several
abbrev pub shown_wall : LocalResult LocalType → List ℕ
shown_wall results.None = codes "none"
shown_wall (results.Single t) = codes "single " ++ shown_type t
shown_wall (results.Ambiguous first last) = codes "ambiguous " ++ shown_type first ++ codes ", " ++ shown_type last

-- a UTC date-time as a clock shows it that is that many seconds ahead, and that offset: `YYYY-MM-DD HH:MM:SS +HH:MM`
abbrev pub shown_date_time : Reading → ℤ → List ℕ
shown_date_time utc offset = reading_text 32 (ahead utc offset) ++ codes " " ++ offset_text offset

abbrev pub shown_rule : Option TransitionRule → List ℕ
shown_rule None = codes "none"
shown_rule (Some (rules.Fixed _)) = codes "fixed"
shown_rule (Some (rules.Alternate _)) = codes "alternate"

-- a zone that was accepted: `ok TRANSITIONS TYPES LEAPS RULE`
abbrev pub shown_zone : Zone → List ℕ
shown_zone zone =
    codes "ok " ++ decimal (length zone.transitions) ++ codes " " ++ decimal (length zone.types) ++ codes " " ++ decimal (length zone.leaps)
    ++ codes " " ++ shown_rule zone.rule

abbrev pub shown_refusal : ℕ → List ℕ
shown_refusal number = codes "refused " ++ decimal number

-- a zone is read, which is the zone from here on; or an error is returned by its number, and the earlier zone stays: the first fault of
-- what was to be read, and then no zone is spelled there; or memory ran out, which can only be if all that the zone is made of is there
abbrev pub AnswersRead : (Zone → Type 0) → (Error → Type 0) → Type 0 → Option Zone → List ℕ → Option Zone → Type 0
AnswersRead is_zone is_fault is_there zone answer after =
    ((found : Zone) × is_zone found × (answer ≡ shown_zone found) × (after ≡ Some found))
    ⊎ ((e : Error) × ((IsOutOfMemory e × is_there) ⊎ (is_fault e × ((found : Zone) → ¬ (is_zone found)))) × (answer ≡ shown_refusal (error_number e))
    × (after ≡ zone))

-- a TZ string is read
abbrev pub AnswersText : Option Zone → List ℕ → List ℕ → Option Zone → Type 0
AnswersText zone text answer after = AnswersRead (IsPosixZone text) (IsPosixFault text) ((z : Zone) × IsPosixZone text z) zone answer after

-- a file is read
abbrev pub AnswersFile : Option Zone → List ℕ → List ℕ → Option Zone → Type 0
AnswersFile zone bytes answer after =
    AnswersRead (λ found. IsTzFile bytes found × IsValid found) (IsFileFault bytes) ((p : FilePieces) × HasPieces bytes p) zone answer after

-- the file is read whose bytes the line spells, or there was no memory for these bytes
abbrev pub AnswersData : Option Zone → List ℕ → List ℕ → Option Zone → Type 0
AnswersData zone bytes answer after = AnswersFile zone bytes answer after ⊎ ((answer ≡ shown_refusal 17) × (after ≡ zone))

-- the type in force at that second, or the refusal of the second
abbrev pub AnswersAt : Option Zone → ℤ → List ℕ → Type 0
AnswersAt None seconds answer = answer ≡ codes "no zone"
AnswersAt (Some zone) seconds answer =
    ((t : LocalType) × TypeAt zone seconds t × (answer ≡ shown_type t))
    ⊎ (IsTypeRefused zone seconds × (answer ≡ shown_refusal 2))

-- the types in force when a clock shows that local time
abbrev pub AnswersWall : Option Zone → ℤ → List ℕ → Type 0
AnswersWall None local answer = answer ≡ codes "no zone"
AnswersWall (Some zone) local answer =
    (types : LocalResult LocalType) × IsWallAnswer (Shows (TypeAt zone) local) types × (answer ≡ shown_wall types)

-- the law of a zone with these offsets, each of them nothing but its seconds
abbrev pub seconds_in : (ℤ → ℤ) → Meaning ℤ
seconds_in off = meaning_by_seconds (λ k. k) (λ _. off)

abbrev pub law_by : (off : ℤ → ℤ) → Law (seconds_in off)
law_by off = law_by_seconds off

-- the instant that the policy takes for that local date-time, as `show` prints it; or the number of the reason why it takes no instant
abbrev pub AnswersChoice : (ℤ → ℤ) → Reading → Choice → List ℕ → Type 0
AnswersChoice off l choice answer =
    ((d : Zoned ℤ) × IsResolved (law_by off) l choice d × (answer ≡ shown_date_time d.utc d.offset))
    ⊎ ((e : ResolveError) × IsUnresolved off l.s choice e × (answer ≡ shown_refusal (resolve_number e)))

-- that over the offsets of the zone, one at each second; or that some clock of the zone is a day or more away from UTC
abbrev pub AnswersResolve : Option Zone → Reading → Choice → List ℕ → Type 0
AnswersResolve None l choice answer = answer ≡ codes "no zone"
AnswersResolve (Some zone) l choice answer =
    (¬ (IsNarrow zone) × (answer ≡ codes "wide zone"))
    ⊎ (IsNarrow zone × (off : ℤ → ℤ) × AreOffsetsOf zone off × AnswersChoice off l choice answer)

-- what the zone's clocks show at those seconds and nanoseconds; or that some clock of the zone is a day or more away from
-- UTC, or else that no timestamp is so
abbrev pub AnswersShow : Option Zone → ℤ → ℕ → List ℕ → Type 0
AnswersShow None seconds nanos answer = answer ≡ codes "no zone"
AnswersShow (Some zone) seconds nanos answer =
    (¬ (IsNarrow zone) × (answer ≡ codes "wide zone"))
    ⊎ (IsNarrow zone × ¬ (IsStamp (of_secs seconds nanos)) × (answer ≡ codes "out of range"))
    ⊎ (IsNarrow zone × IsStamp (of_secs seconds nanos)
    × ((t : LocalType) × TypeAt zone seconds t × (answer ≡ shown_date_time (of_secs seconds nanos) t.offset)))

abbrev pub AnswersQuery : Option Zone → Query → List ℕ → Option Zone → Type 0
AnswersQuery zone (Text text) answer after = AnswersText zone text answer after
AnswersQuery zone (Data bytes) answer after = AnswersData zone bytes answer after
AnswersQuery zone (At seconds) answer after = AnswersAt zone seconds answer × (after ≡ zone)
AnswersQuery zone (Wall local) answer after = AnswersWall zone local answer × (after ≡ zone)
AnswersQuery zone (Resolve l choice) answer after = AnswersResolve zone l choice answer × (after ≡ zone)
AnswersQuery zone (Show seconds nanos) answer after = AnswersShow zone seconds nanos answer × (after ≡ zone)

-- the answer to a line, without its newline
abbrev pub AnswersLine : Option Zone → List ℕ → List ℕ → Option Zone → Type 0
AnswersLine zone line answer after =
    ((query : Query) × Asks line query × AnswersQuery zone query answer after)
    ⊎ (IsBadLine line × (answer ≡ codes "bad line") × (after ≡ zone))

-- one line of answer for each of the lines, in their order
abbrev pub AnswersLines : Option Zone → List (List ℕ) → List ℕ → Option Zone → Type 0
AnswersLines zone [] output after = (output ≡ []) × (after ≡ zone)
AnswersLines zone (line ∷ lines) output after =
    (answer : List ℕ) × (next : Option Zone) × (rest : List ℕ)
    × AnswersLine zone line answer next × AnswersLines next lines rest after × (output ≡ answer ++ codes "\n" ++ rest)
