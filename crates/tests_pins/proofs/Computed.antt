-- What examples compute with: to unfold one of these words is to unfold all that its line names.
use Rattle.tz_info.specs.TzGrammar.{checked_day, hours_minutes_seconds, minutes_seconds, more, name, numbered_day, optional_minutes, quoted, sign, time_sign}
use Rattle.tz_search.specs.Digits.{digits as binary_digits}
use Rattle.std.specs.{Str.{chars, is_utf8}, Str.Lossy.{utf8_valid_len}}
use Rattle.tz_info.proofs.Words.{alternate, date, day, days, dst_offset, duration, end, fixed, given_offset}
use Rattle.tz_info.proofs.Words.{julian_date, month_date, named, next_hour, offset, optional_time, rule_in, time}
use Rattle.tz_info.proofs.{Words.{trimmed}, PosixLaws.{zone_in}}
use Rattle.tz_file.specs.FileContents.{designation, indicators, local_type, mark, pair_at, type_at, typed}
use Rattle.tz_info.specs.{Footers.{footer, footer_text, newline, optional_footer, utf8}, TzFiles.{contents, tz_file}}
use Rattle.zoneq_lib.specs.Questions.{calendar_day, fold, gap, text_query, unix_seconds}
use Rattle.zoneq_lib.proofs.CitedWords.{Begins, Word, at_query, data_query, int_at, integer, local_time, next, question, resolve_query, show_query, tag_at}
use Rattle.zoneq_lib.proofs.CitedWords.{wall_query}
use Rattle.tz_write.proofs.Words.{begins, counts_bytes, file_bytes, first_half, header_bytes, laid_file, laid_names, later_version, leap_bytes, number_bytes}
use Rattle.tz_write.proofs.Words.{second_half, signed_bytes, type_bytes}
use Rattle.tz_write.specs.Steps.{LaidNames.{before_last, laid, with_text, with_texts}, TextPieces.{spelled_clock, spelled_offset}}
use Rattle.zonedump_lib.specs.RuleWords.{moment_words, month_words, week_words, weekday_words}
use Rattle.tests_pins.proofs.Words.{after_first_block, be_u32, block, choice, clock_words, day_number, days_of_months, digits, escape_byte, exact_at, file}
use Rattle.tests_pins.proofs.Words.{first_version, header, in_digits, offset_words, optional_tag_at, print_from, query_line, rule, seconds, short_day}
use Rattle.tests_pins.proofs.Words.{short_month, short_weekday, signed, six_counts, step_words, text, tzif, version, version_1, year_start, year_text, ℕ}

-- the day numbers of dates
unfoldable pub calendar : ℕ
unfolding year_start days_of_months day_number
calendar = 0

-- printed dates, times and numbers
unfoldable pub printing : ℕ
unfolding digits in_digits year_text
printing = 0

-- changes and rules in words and as JSON
unfoldable pub wording : ℕ
unfolding printing print_from escape_byte clock_words offset_words step_words short_weekday short_month short_day week_words weekday_words month_words
    moment_words
wording = 0

-- how many digits a number has in base two
unfoldable pub binary : ℕ
unfolding binary_digits
binary = 0

-- TZ strings
unfoldable pub texts : ℕ
unfolding name quoted seconds minutes_seconds optional_minutes hours_minutes_seconds sign duration offset time_sign time checked_day month_date julian_date
    numbered_day date optional_time day days next_hour more given_offset dst_offset named end fixed alternate rule text int_at tag_at optional_tag_at
    rule_in trimmed zone_in
texts = 0

-- files, read and written
unfoldable pub files : ℕ
unfolding texts file header version version_1 six_counts tzif block be_u32 signed after_first_block first_version later_version exact_at optional_tag_at
    mark designation typed local_type type_at pair_at indicators newline utf8 footer_text footer optional_footer contents tz_file
    is_utf8 chars lib.Utf8.encode utf8_valid_len
files = 0

unfoldable pub written : ℕ
unfolding number_bytes signed_bytes counts_bytes header_bytes type_bytes leap_bytes first_half second_half file_bytes begins with_text with_texts
    before_last laid laid_names digits spelled_clock spelled_offset laid_file
written = 0

-- the lines of `zoneq`
unfoldable pub lines : ℕ
unfolding calendar Word Begins integer unix_seconds next calendar_day local_time gap fold choice text_query data_query at_query resolve_query wall_query
    show_query question
    query_line int_at tag_at optional_tag_at
lines = 0
