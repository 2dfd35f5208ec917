-- TZ strings, as bytes, and the rules that they spell.
use Rattle.std.specs.Prelude.{ℕ, pos, neg_ℤ, true, false, List, [], ◌∷◌, Some}
use Rattle.tz_info.specs.declared.rule.{day.DayForm.TheVariants.{Julian1, Julian0, MonthWeekday}, transition_rule.TransitionRule.{TransitionRule}}
use Rattle.tz_info.specs.declared.rule.transition_rule.TransitionRule.TheVariants as rules

-- `EST5EDT,M3.2.0,M11.1.0`
abbrev pub new_york_text : List ℕ
new_york_text =
    69 ∷ 83 ∷ 84 ∷ 53 ∷ 69 ∷ 68 ∷ 84 ∷
    44 ∷ 77 ∷ 51 ∷ 46 ∷ 50 ∷ 46 ∷ 48 ∷
    44 ∷ 77 ∷ 49 ∷ 49 ∷ 46 ∷ 49 ∷ 46 ∷ 48 ∷
    []

-- the same with the time that a text may leave out: `EST5EDT,M3.2.0/2,M11.1.0`
abbrev pub new_york_long : List ℕ
new_york_long =
    69 ∷ 83 ∷ 84 ∷ 53 ∷ 69 ∷ 68 ∷ 84 ∷
    44 ∷ 77 ∷ 51 ∷ 46 ∷ 50 ∷ 46 ∷ 48 ∷ 47 ∷ 50 ∷
    44 ∷ 77 ∷ 49 ∷ 49 ∷ 46 ∷ 49 ∷ 46 ∷ 48 ∷
    []

-- `EST5EDT`, which doesn't say when daylight saving time starts and ends
abbrev pub no_days : List ℕ
no_days = 69 ∷ 83 ∷ 84 ∷ 53 ∷ 69 ∷ 68 ∷ 84 ∷ []

-- `FOO23`, whose clocks are 23 hours behind UTC, and `FOO24`
abbrev pub foo_23 : List ℕ
foo_23 = 70 ∷ 79 ∷ 79 ∷ 50 ∷ 51 ∷ []

abbrev pub foo_23_rule : TransitionRule
foo_23_rule = rules.Fixed (record {
  offset = neg_ℤ (pos 82_800);
  dst = false;
  name = Some (70 ∷ 79 ∷ 79 ∷ []);
})

abbrev pub foo_24 : List ℕ
foo_24 = 70 ∷ 79 ∷ 79 ∷ 50 ∷ 52 ∷ []

-- `FOO+5` and `FOO-5`, whose clocks are five hours behind UTC and ahead of it
abbrev pub foo_plus_5 : List ℕ
foo_plus_5 = 70 ∷ 79 ∷ 79 ∷ 43 ∷ 53 ∷ []

abbrev pub foo_minus_5 : List ℕ
foo_minus_5 = 70 ∷ 79 ∷ 79 ∷ 45 ∷ 53 ∷ []

abbrev pub foo_behind : TransitionRule
foo_behind = rules.Fixed (record {
  offset = neg_ℤ (pos 18_000);
  dst = false;
  name = Some (70 ∷ 79 ∷ 79 ∷ []);
})

abbrev pub foo_ahead : TransitionRule
foo_ahead = rules.Fixed (record { offset = pos 18_000; dst = false; name = Some (70 ∷ 79 ∷ 79 ∷ []) })

-- `FOO5:30`, `FOO5:06:07` and `foo5`
abbrev pub foo_5_30 : TransitionRule
foo_5_30 = rules.Fixed (record {
  offset = neg_ℤ (pos 19_800);
  dst = false;
  name = Some (70 ∷ 79 ∷ 79 ∷ []);
})

abbrev pub foo_5_06_07 : TransitionRule
foo_5_06_07 = rules.Fixed (record {
  offset = neg_ℤ (pos 18_367);
  dst = false;
  name = Some (70 ∷ 79 ∷ 79 ∷ []);
})

abbrev pub small : TransitionRule
small = rules.Fixed (record {
  offset = neg_ℤ (pos 18_000);
  dst = false;
  name = Some (102 ∷ 111 ∷ 111 ∷ []);
})

-- `EST5EDT,J60,300`: from 1 March to the day 300 after 1 January
abbrev pub numbered_text : List ℕ
numbered_text = 69 ∷ 83 ∷ 84 ∷ 53 ∷ 69 ∷ 68 ∷ 84 ∷ 44 ∷ 74 ∷ 54 ∷ 48 ∷ 44 ∷ 51 ∷ 48 ∷ 48 ∷ []

abbrev pub numbered_rule : TransitionRule
numbered_rule = rules.Alternate (record {
  std = record { offset = neg_ℤ (pos 18_000); dst = false; name = Some (69 ∷ 83 ∷ 84 ∷ []) };
  dst = record { offset = neg_ℤ (pos 14_400); dst = true; name = Some (69 ∷ 68 ∷ 84 ∷ []) };
  start = record { day = Julian1 60; time = pos 7_200 };
  end = record { day = Julian0 300; time = pos 7_200 };
})

-- `FOO5:60`, `FOO`, `FO5` and `FOO5BAR,J0`
abbrev pub foo_5_60 : List ℕ
foo_5_60 = 70 ∷ 79 ∷ 79 ∷ 53 ∷ 58 ∷ 54 ∷ 48 ∷ []

abbrev pub foo : List ℕ
foo = 70 ∷ 79 ∷ 79 ∷ []

abbrev pub fo_5 : List ℕ
fo_5 = 70 ∷ 79 ∷ 53 ∷ []

abbrev pub day_0 : List ℕ
day_0 = 70 ∷ 79 ∷ 79 ∷ 53 ∷ 66 ∷ 65 ∷ 82 ∷ 44 ∷ 74 ∷ 48 ∷ []

-- `UTC0`
abbrev pub utc_text : List ℕ
utc_text = 85 ∷ 84 ∷ 67 ∷ 48 ∷ []

abbrev pub utc_rule : TransitionRule
utc_rule = rules.Fixed (record { offset = pos 0; dst = false; name = Some (85 ∷ 84 ∷ 67 ∷ []) })

-- `IST-2IDT,M3.4.4/26,M10.5.0`: from 26:00 on the fourth Thursday of March, which is 02:00 on the
-- Friday after it, to 02:00 on the last Sunday of October
abbrev pub jerusalem_text : List ℕ
jerusalem_text =
    73 ∷ 83 ∷ 84 ∷ 45 ∷ 50 ∷ 73 ∷ 68 ∷ 84 ∷
    44 ∷ 77 ∷ 51 ∷ 46 ∷ 52 ∷ 46 ∷ 52 ∷ 47 ∷ 50 ∷ 54 ∷
    44 ∷ 77 ∷ 49 ∷ 48 ∷ 46 ∷ 53 ∷ 46 ∷ 48 ∷
    []

abbrev pub jerusalem_rule : TransitionRule
jerusalem_rule = rules.Alternate (record {
  std = record { offset = pos 7_200; dst = false; name = Some (73 ∷ 83 ∷ 84 ∷ []) };
  dst = record { offset = pos 10_800; dst = true; name = Some (73 ∷ 68 ∷ 84 ∷ []) };
  start = record { day = MonthWeekday 3 4 4; time = pos 93_600 };
  end = record { day = MonthWeekday 10 5 0; time = pos 7_200 };
})

-- `<-03>3<-02>,M3.5.0/-2,M10.5.0/-1`: from two hours before the last Sunday of March to an hour
-- before the last of October
abbrev pub nuuk_text : List ℕ
nuuk_text =
    60 ∷ 45 ∷ 48 ∷ 51 ∷ 62 ∷ 51 ∷ 60 ∷ 45 ∷ 48 ∷ 50 ∷ 62 ∷
    44 ∷ 77 ∷ 51 ∷ 46 ∷ 53 ∷ 46 ∷ 48 ∷ 47 ∷ 45 ∷ 50 ∷
    44 ∷ 77 ∷ 49 ∷ 48 ∷ 46 ∷ 53 ∷ 46 ∷ 48 ∷ 47 ∷ 45 ∷ 49 ∷
    []

abbrev pub nuuk_rule : TransitionRule
nuuk_rule = rules.Alternate (record {
  std = record { offset = neg_ℤ (pos 10_800); dst = false; name = Some (45 ∷ 48 ∷ 51 ∷ []) };
  dst = record { offset = neg_ℤ (pos 7_200); dst = true; name = Some (45 ∷ 48 ∷ 50 ∷ []) };
  start = record { day = MonthWeekday 3 5 0; time = neg_ℤ (pos 7_200) };
  end = record { day = MonthWeekday 10 5 0; time = neg_ℤ (pos 3_600) };
})
