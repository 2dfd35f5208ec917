-- The footer of a TZif file (RFC 8536 section 3.3).
use Rattle.std.specs.{Prelude.{ℕ, ◌≡◌, ◌-◌, Bool, List, [], length, drop, slice_index, Option, Some, None}, Char.{is_ascii_whitespace}}
use Rattle.std.specs.Str.{IsUtf8, Lossy.{utf8_valid_len}}
use Rattle.tz_base.specs.{Fronts.{after_run}, Steps.{Comparisons.{equal}, TextTests.{utf8_test}}}
use Rattle.tz_base.specs.Grammar.{Grammar, Nothing, Marked, Ended, End, Run, Refused, Check, Here, At, Inside, ◌>>=◌, ◌>>◌}
use Rattle.tz_file.specs.FileContents.{is_not_zero}
use Rattle.tz_base.specs.Trims.{trimmed}
use Rattle.tz_info.specs.TzGrammar.{colon, text}
use Rattle.tz_info.specs.declared.rule.transition_rule.TransitionRule.{TransitionRule}
use Rattle.tz_base.specs.Refusals as refused
use Rattle.tz_base.specs.declared.error.Expected.TheVariants as expected

-- a colon in front would name a file, and a 0 byte is in no TZ string; no text is no rule
unfoldable pub footer_text : Bool → Grammar (Option TransitionRule)
footer_text extended = Here λ bytes. do
  Marked colon (At bytes (Refused (refused.InvalidTzFile expected.TzTextInFooter)))
      (Inside bytes bytes (do Run is_not_zero; End (refused.InvalidTzFile expected.TzTextInFooter)))
  Ended (Nothing None) (do rule ← text extended; Nothing (Some rule))

-- the first byte that isn't UTF-8 is rejected
unfoldable pub utf8 : Grammar (Unit {0})
utf8 = Here λ bytes. At (drop (utf8_valid_len bytes) bytes) (Check (IsUtf8 bytes) (utf8_test bytes) (refused.Utf8 expected.FooterInUtf8) tt)

unfoldable pub newline : ℕ → Grammar (Unit {0})
newline byte = Check (byte ≡ 10) (equal byte 10) (refused.InvalidTzFile expected.FooterBetweenNewlines) tt

-- UTF-8 with a newline in front and a newline at the end, where one alone is both, and the text without the white space at its ends
unfoldable pub footer : Bool → Grammar (Option TransitionRule)
footer extended = Here λ bytes. do
  utf8
  newline (slice_index bytes 0)
  At [] (newline (slice_index bytes (length bytes - 1)))
  Inside (trimmed bytes) (after_run is_ascii_whitespace bytes) (footer_text extended)

-- without a footer there is no rule
unfoldable pub optional_footer : Bool → Option (List ℕ) → Grammar (Option TransitionRule)
optional_footer extended None = Nothing None
optional_footer extended (Some bytes) = Inside bytes bytes (footer extended)
